-- Automata: what a rule means.
--   Automaton    a complete deterministic automaton: states below `count`, letters below `letters`; `automaton` makes one of its parts
--   Lawful       its bounds: 1 to 4,096 states, 1 to 16 letters, the start and every next state below the count
--   blank        the automaton that keeps nothing: one state, one letter; `blank_lawful` says that it keeps to the bounds
use Rattle.std.specs.Prelude.{ℕ, ◌<◌, ◌≤◌, Bool, false}
use Rattle.std.proofs.Common.{lit<, lit≤}

pub record Automaton : Type 0 where
  pub count : ℕ
  pub letters : ℕ
  pub start : ℕ
  pub kept : ℕ → Bool
  pub next : ℕ → ℕ → ℕ

abbrev pub automaton : ℕ → ℕ → ℕ → (ℕ → Bool) → (ℕ → ℕ → ℕ) → Automaton
automaton n k s f d = record { count = n; letters = k; start = s; kept = f; next = d }

pub record Lawful (m : Automaton) : Type 0 where
  pub some_state : 1 ≤ m.count
  pub few_states : m.count ≤ 4096
  pub some_letter : 1 ≤ m.letters
  pub few_letters : m.letters ≤ 16
  pub begins : m.start < m.count
  pub stays : (p a : ℕ) → p < m.count → a < m.letters → m.next p a < m.count

abbrev pub blank : Automaton
blank = automaton 1 1 0 (λ _. false) (λ _ _. 0)

pub blank_lawful : Lawful blank
blank_lawful = record {
  some_state = lit≤ tt;
  few_states = lit≤ tt;
  some_letter = lit≤ tt;
  few_letters = lit≤ tt;
  begins = lit< tt;
  stays = λ p a h k. lit< tt;
}
