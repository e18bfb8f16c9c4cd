-- What a rule answers, refusals included, read off its meaning.
--   no_state, no_letter   the refusals of a state and of a letter that are not there; a walk names the letter's position
--   size_answer           the number of states and of letters
--   kept_answer           whether a state is kept
--   next_answer           the next state; the state is checked before the letter
--   HoldsRow              the first k places of a row hold the next states of a state, letter by letter, each raised by r
use Rattle.std.specs.Prelude.{◌≡◌, ℕ, ◌+◌, ◌<◌, Bool, cond, List, Ok, Err, Result, nat_lt, slice_index}
use Rattle.automaton.specs.declared.fault.Fault.{Fault}
use Rattle.automaton.specs.declared.kind.FaultKind.TheVariants.{NoSuchState, NoSuchLetter}
use Rattle.automaton.specs.declared.layer.Layer.TheVariants.{Rule}
use Rattle.automaton.specs.declared.size.Size.{Size}
use Rattle.automaton.specs.Faults.{refusal}

abbrev pub no_state : Fault
no_state = refusal NoSuchState Rule

abbrev pub no_letter : ℕ → Fault
no_letter position = refusal (NoSuchLetter position) Rule

abbrev pub size_answer : ℕ → ℕ → Size
size_answer n k = record { states = n; letters = k }

abbrev pub kept_answer : ℕ → (ℕ → Bool) → ℕ → Result Bool Fault
kept_answer n kept p = cond (nat_lt p n) (Ok (kept p)) (Err no_state)

abbrev pub next_answer : ℕ → ℕ → (ℕ → ℕ → ℕ) → ℕ → ℕ → Result ℕ Fault
next_answer n k next p a = cond (nat_lt p n) (cond (nat_lt a k) (Ok (next p a)) (Err (no_letter 0))) (Err no_state)

abbrev pub HoldsRow : ℕ → (ℕ → ℕ → ℕ) → ℕ → ℕ → List ℕ → Type 0
HoldsRow k next p r row = (a : ℕ) → a < k → slice_index row a ≡ r + next p a
