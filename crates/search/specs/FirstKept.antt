-- The first kept word of a rule: shorter words come first, and among equally long ones those with lower letters.
--   found        what the search for a kept state gives, from the start on
--   first_kept   what is answered then: the word's length if one was found, and how many states are noted
--   handed       the word of that length at the beginning of the buffer, if there is a length
--   Right        the answer, with the cells and the buffer, is right
use Rattle.std.specs.Prelude.{◌≡◌, ℕ, ◌≤◌, ◌↔◌, List, length, take, Option, Some, None, option_map}
use Rattle.automaton.specs.Automata.{Automaton}
use Rattle.automaton.specs.Languages.{Keeps}
use Rattle.explore.specs.declared.step_cell.StepCell.{StepCell}
use Rattle.explore.specs.Order.{First}
use Rattle.explore.specs.Search.{Searched, explore}
use Rattle.explore.specs.States.{Sought, states}
use Rattle.search.specs.declared.first_kept.FirstKept.{FirstKept}

abbrev pub found : Automaton → Searched StepCell
found m = explore (states m m.kept) m.letters m.count m.start

abbrev pub first_kept : Automaton → FirstKept
first_kept m = record { length = option_map length (found m).word; noted = length (found m).noted }

abbrev pub handed : Option ℕ → List ℕ → Option (List ℕ)
handed long buffer = option_map (λ n. take n buffer) long

pub record Right (m : Automaton) (a : FirstKept) (cells : List StepCell) (buffer : List ℕ) : Type 0 where
  -- it says that nothing is kept exactly when no word of any length is kept
  pub nothing : (a.length ≡ None) ↔ ((w : List ℕ) → Keeps m w → ⊥)
  -- a word that is handed over is kept, and comes before every other kept word;
  pub first : (w : List ℕ) → handed a.length buffer ≡ Some w → First (Keeps m) w
  -- every kept word has at least as many letters;
  pub shortest : (w : List ℕ) → handed a.length buffer ≡ Some w → (v : List ℕ) → Keeps m v → length w ≤ length v
  -- and it has as many as the answer says
  pub long : (w : List ℕ) → handed a.length buffer ≡ Some w → a.length ≡ Some (length w)
  -- as many cells are noted as it says, and these cells and the word are what a search over single states gives, which trails and words alone settle
  pub many : a.noted ≤ length cells
  pub sought : Sought m m.kept m.start (record { noted = take a.noted cells; word = handed a.length buffer })
