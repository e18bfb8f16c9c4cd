-- Worked examples, of the very definitions that the contracts of the calls cite.
--   one_letter    a sheet with one letter and one state, which is kept
--   even_a        the sheet of the words of a and b with an even number of a
--   all_words     the sheet of all words of a and b
--   only_a        the sheet of a nondeterministic automaton that accepts the word a alone
--   even_twice    the even number of a beside itself: its states are 0 and 1, and then 2 and 3
--   even_and_all  the even number of a beside all words: the states of the first are 0 and 1, and that of the second is 2
--   pair_cell     a cell by its two states, its origin and its letter
--   number        the number of the refusal, if a sheet is refused
--   Compares      comparing two states of an automaton, where no two different states are joined, with as many cells and bytes as there are states, answers this, with
--                 these cells noted and this word found
--   first_answer  what the first kept word of an automaton answers, with as many cells and bytes as there are states
--   Samples       the examples
use Rattle.std.specs.Prelude.{◌≡◌, ℕ, ◌%◌, Bool, ◌↔◌, List, [], ◌∷◌, Some, None, Ok, Option, Result, option_map, ◌==◌}
use Rattle.std.specs.List.{count_by}
use Rattle.automaton.specs.declared.fault.Fault.{Fault}
use Rattle.automaton.specs.declared.layer.Layer.TheVariants.{Search}
use Rattle.automaton.specs.Automata.{Automaton}
use Rattle.automaton.specs.Faults.{row_of}
use Rattle.automaton.specs.Languages.{Keeps}
use Rattle.automaton.specs.Words.{Over}
use Rattle.combine.specs.Combined.{complement, disjoint_union}
use Rattle.explore.specs.declared.pair_cell.PairCell.{PairCell}
use Rattle.explore.specs.Room.{room_checked}
use Rattle.register.specs.declared.verdict.Verdict.{Verdict}
use Rattle.register.specs.declared.verdict.Verdict.TheVariants.{Same, Differ}
use Rattle.register.specs.Calls.{found as compared}
use Rattle.register.specs.Refusals.{checked}
use Rattle.register.specs.Relations.{Agree}
use Rattle.register.specs.Verdicts.{verdict}
use Rattle.search.specs.declared.first_kept.FirstKept.{FirstKept}
use Rattle.search.specs.FirstKept.{first_kept, found}
use Rattle.sheet.specs.Layout.{tabled}
use Rattle.sheet.specs.NfaLayout.{setwise}
use Rattle.sheet.specs.NfaOpening.{nfa_form}
use Rattle.sheet.specs.Opening.{table_form}

abbrev pub one_letter : List ℕ
one_letter = 0x00 ∷ 0x02 ∷ 0x00 ∷ 0x00 ∷ []

abbrev pub even_a : List ℕ
even_a = 0x10 ∷ 0x06 ∷ 0x00 ∷ 0x80 ∷ 0x00 ∷ 0x00 ∷ 0x01 ∷ []

abbrev pub all_words : List ℕ
all_words = 0x10 ∷ 0x02 ∷ 0x00 ∷ 0x00 ∷ 0x00 ∷ []

abbrev pub only_a : List ℕ
only_a = 0x01 ∷ 0x94 ∷ []

abbrev pub even_twice : Automaton
even_twice = disjoint_union (tabled even_a) (tabled even_a)

abbrev pub even_and_all : Automaton
even_and_all = disjoint_union (tabled even_a) (tabled all_words)

abbrev pub number : Option Fault → Option ℕ
number fault = option_map (λ f. (row_of f.kind).number) fault

abbrev pub pair_cell : ℕ → ℕ → ℕ → ℕ → PairCell
pair_cell p q i a = record { first = p; second = q; origin = i; letter = a }

abbrev pub Compares : Automaton → ℕ → ℕ → Verdict → List PairCell → Option (List ℕ) → Type 0
Compares m p q answer cells word = (J : ℕ → ℕ → Bool) → Agree m.count J (λ x y. x == y) →
    (compared m J p q ≡ record { noted = cells; word = word }) × (checked m.count p q m.count m.count (verdict m p q (compared m J p q)) ≡ Ok answer)

abbrev pub first_answer : Automaton → Result FirstKept Fault
first_answer m = room_checked Search m.count m.count m.count (first_kept m)

pub record Samples : Type 0 where
  -- 00 02 00 00 is accepted; it has one letter and one state, and keeps every word of a
  pub one_letter_accepted : table_form.fault one_letter ≡ None
  pub one_letter_letters : (tabled one_letter).letters ≡ 1
  pub one_letter_states : (tabled one_letter).count ≡ 1
  pub one_letter_keeps : (w : List ℕ) → Over 1 w → Keeps (tabled one_letter) w
  -- 10 06 00 80 00 00 01 is accepted; it keeps exactly those words of a and b in which the number of a is even
  pub even_accepted : table_form.fault even_a ≡ None
  pub even_letters : (tabled even_a).letters ≡ 2
  pub even_keeps : (w : List ℕ) → Over 2 w → Keeps (tabled even_a) w ↔ (count_by (λ a. a == 0) w % 2 ≡ 0)
  -- beside itself, its starts are the same: two pairs are joined
  pub same : Compares even_twice 0 2 (Same 2) (pair_cell 0 2 0 0 ∷ pair_cell 1 3 0 0 ∷ []) None
  -- beside 10 02 00 00 00, the starts differ: state 2 keeps the word a, and one pair is joined on trial
  pub all_accepted : table_form.fault all_words ≡ None
  pub differ : Compares even_and_all 0 2 (Differ 1 2 1) (pair_cell 0 2 0 0 ∷ []) (Some (0 ∷ []))
  -- 01 94, of a nondeterministic automaton, is accepted; it starts at state 2 and keeps the word a alone
  pub only_a_accepted : nfa_form.fault only_a ≡ None
  pub only_a_start : (setwise only_a).start ≡ 2
  pub only_a_keeps : (w : List ℕ) → Keeps (setwise only_a) w ↔ (w ≡ 0 ∷ [])
  -- the first word with an odd number of a is a, with one state noted; the first with an even number is the empty one, with none noted
  pub odd_first : first_answer (complement (tabled even_a)) ≡ Ok (record { length = Some 1; noted = 1 })
  pub odd_found : found (complement (tabled even_a)) ≡ record { noted = record { state = 0; origin = 0; letter = 0 } ∷ []; word = Some (0 ∷ []) }
  pub even_first : first_answer (tabled even_a) ≡ Ok (record { length = Some 0; noted = 0 })
  pub even_found : found (tabled even_a) ≡ record { noted = []; word = Some [] }
  -- refused sheets: one with fewer bytes than its header asks for, one with a filling bit set, one with a next state that is not there, and one with too many own states
  pub wrong_length : number (table_form.fault (0x00 ∷ 0x02 ∷ 0x00 ∷ [])) ≡ Some 2
  pub padding_set : number (table_form.fault (0x00 ∷ 0x02 ∷ 0x00 ∷ 0x01 ∷ [])) ≡ Some 4
  pub stray_target : number (table_form.fault (0x00 ∷ 0x02 ∷ 0x00 ∷ 0x81 ∷ [])) ≡ Some 3
  pub too_many_own : number (nfa_form.fault (0x0A ∷ [])) ≡ Some 11
