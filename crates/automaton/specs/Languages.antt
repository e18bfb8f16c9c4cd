-- Which words a rule keeps and drops, and what walking and judging a word promise.
--   Keeps       every letter is there, and the walk from the start ends at a kept state
--   Drops       every letter is there, and the word is not kept
--   Walked      the promise of a walk: its answer is the defined one; it ends at q exactly when a run of the textbook leads
--               there; and a longer word is walked on from where this one ends
--   Unknown     the first letter that is not there stands at this position
--   keeps_answer  what judging a word answers: whether it is kept; a letter that is not there is refused, so such a word is neither kept nor
--               dropped
--   Judged      the promise of judging a word: the answer is the defined one, yes exactly if the rule keeps the word, no exactly
--               if it drops it, and a refusal exactly at the first letter that is not there; and the words kept are those that the
--               textbook's automaton accepts, which is a theorem about the rule and speaks of no answer
use Rattle.std.specs.Prelude.{◌≡◌, ℕ, ◌<◌, ◌≤◌, Bool, true, false, ◌↔◌, List, ◌++◌, length, Ok, Err, Result, slice_index}
use Rattle.automaton.specs.declared.fault.Fault.{Fault}
use Rattle.automaton.specs.Answers.{kept_answer, no_letter}
use Rattle.automaton.specs.Automata.{Automaton}
use Rattle.automaton.specs.Diagrams.{Accepts, Leads, diagram}
use Rattle.automaton.specs.Faults.{and_then}
use Rattle.automaton.specs.Words.{Over, resumed, walk, walk_answer}

pub record Keeps (m : Automaton) (w : List ℕ) : Type 0 where
  pub over : Over m.letters w
  pub kept : m.kept (walk m m.start w) ≡ true

pub record Drops (m : Automaton) (w : List ℕ) : Type 0 where
  pub over : Over m.letters w
  pub unkept : Keeps m w → ⊥

pub record Unknown (m : Automaton) (w : List ℕ) (i : ℕ) : Type 0 where
  pub within : i < length w
  pub off : m.letters ≤ slice_index w i
  pub before : (j : ℕ) → j < i → slice_index w j < m.letters

abbrev pub keeps_answer : Automaton → List ℕ → Result Bool Fault
keeps_answer m w = and_then (walk_answer m m.start w) (λ q. kept_answer m.count m.kept q)

pub record Walked (m : Automaton) (p : ℕ) (w : List ℕ) (r : Result ℕ Fault) : Type 0 where
  pub answer : r ≡ walk_answer m p w
  pub textbook : (q : ℕ) → (r ≡ Ok q) ↔ (Leads (diagram m) p w q)
  pub joined : (q : ℕ) (v : List ℕ) → r ≡ Ok q → walk_answer m p (w ++ v) ≡ resumed (length w) (walk_answer m q v)

pub record Judged (m : Automaton) (w : List ℕ) (r : Result Bool Fault) : Type 0 where
  pub answer : r ≡ keeps_answer m w
  pub keeps : (r ≡ Ok true) ↔ Keeps m w
  pub drops : (r ≡ Ok false) ↔ Drops m w
  pub unknown : (i : ℕ) → (r ≡ Err (no_letter i)) ↔ Unknown m w i
  pub textbook : Keeps m w ↔ Accepts (diagram m) w
