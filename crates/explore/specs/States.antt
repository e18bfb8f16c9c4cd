-- Searching single states for one that ends the search, a kept one say.
--   noted_state   some cell has this state
--   unnoted       how many states below n no cell has
--   states        the kind of this search: a state was seen if a cell has it
--   Leads         the walk of a word over the letters leads from x to the state of a cell
--   EndsAt        the walk of a word over the letters leads from x to a state that ends the search
--   Sought        what the search from x gives
--   StatesLaw     over every automaton, for every set of states that end it, the search from any state gives that
use Rattle.std.specs.Prelude.{◌≡◌, ℕ, zero, suc, ◌+◌, ◌<◌, Bool, true, cond, List, length, None, Some, ◌==◌}
use Rattle.std.specs.List.{list_any}
use Rattle.automaton.specs.Automata.{Automaton, Lawful}
use Rattle.automaton.specs.Words.{Over, walk}
use Rattle.explore.specs.declared.step_cell.StepCell.{StepCell}
use Rattle.explore.specs.Order.{First}
use Rattle.explore.specs.Search.{Kind, Decided, Searched, at, explore, way}

abbrev pub noted_state : List StepCell → ℕ → Bool
noted_state cells x = list_any (λ c. c.state == x) cells

unfoldable pub unnoted : List StepCell → ℕ → ℕ
unnoted cells zero = 0
unnoted cells (suc n) = cond (noted_state cells n) 0 1 + unnoted cells n

abbrev pub states : Automaton → (ℕ → Bool) → Kind
states m ends = record {
  Cell = StepCell;
  Item = ℕ;
  item = λ c. c.state;
  origin = λ c. c.origin;
  letter = λ c. c.letter;
  cell = λ x i a. record { state = x; origin = i; letter = a };
  none = record { state = 0; origin = 0; letter = 0 };
  step = m.next;
  seen = noted_state;
  ends = ends;
}

pub record Leads (m : Automaton) (x : ℕ) (w : List ℕ) (c : StepCell) : Type 0 where
  pub over : Over m.letters w
  pub state : walk m x w ≡ c.state

pub record EndsAt (m : Automaton) (ends : ℕ → Bool) (x : ℕ) (w : List ℕ) : Type 0 where
  pub over : Over m.letters w
  pub ended : ends (walk m x w) ≡ true

pub record Sought (m : Automaton) (ends : ℕ → Bool) (x : ℕ) (r : Searched StepCell) : Type 0 where
  -- all that every search gives, with no more cells than states
  pub decided : Decided (states m ends) m.letters m.count x r
  -- the trail of each cell leads to its state
  pub leads : (i : ℕ) → i < length r.noted → Leads m x (way (states m ends) r.noted i) (at (states m ends) r.noted i)
  -- a word that was found is the first whose walk leads to a state that ends the search
  pub first : (w : List ℕ) → r.word ≡ Some w → First (EndsAt m ends x) w
  -- if none was found, no word's does
  pub none : r.word ≡ None → (w : List ℕ) → EndsAt m ends x w → ⊥

abbrev pub StatesLaw : Type 0
StatesLaw = (m : Automaton) → Lawful m → (ends : ℕ → Bool) (x : ℕ) → x < m.count → Sought m ends x (explore (states m ends) m.letters m.count x)
