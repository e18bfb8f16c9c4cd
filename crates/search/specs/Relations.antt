-- How two rules are related, by the words that they keep. What is said of words is said of any two languages, that is, of two properties of words.
--   OnlyIn           a word is in the first language and not in the second
--   Within           every word of the first language is in the second
--   RelationValue    what a relation says: the number of its case, and the lengths of two words, that of the first one that only the first rule keeps, and that of the
--                    first one that only the second keeps
--   relation_value   each case of a relation: 0 is "equal", 1 "first within second", which has the length of a word that only the second keeps, 2 "second within first",
--                    which has that of one that only the first keeps, and 3 "neither", which has both
--   relation         the relation that says these lengths
--   only             what the search gives, in the difference of two automata, for a word that the first keeps and the second drops
--   related          the relation of two automata
--   room_for_both    the answer to the room for both searches, over n states each: cells first, and of either the first search before the second; and this, if none is
--                    refused
--   checked          the answer to two automata and the room: the first refusal that applies; and this, if none does
--   Related          the relation of two languages is right, with the words that are handed over
use Rattle.std.specs.Prelude.{◌≡◌, ℕ, ◌≤◌, ◌↔◌, List, length, Option, Some, None, Ok, Result, option_map}
use Rattle.automaton.specs.declared.fault.Fault.{Fault}
use Rattle.automaton.specs.declared.layer.Layer.TheVariants.{Search}
use Rattle.automaton.specs.declared.side.Side.TheVariants.{First, Second}
use Rattle.automaton.specs.Automata.{Automaton}
use Rattle.automaton.specs.Faults.{and_then, sided_answer}
use Rattle.combine.specs.Combined.{difference, fit_answer, pairs}
use Rattle.explore.specs.declared.step_cell.StepCell.{StepCell}
use Rattle.explore.specs.Order.{First as IsFirst}
use Rattle.explore.specs.Room.{bytes_checked, cells_checked}
use Rattle.explore.specs.Search.{Searched}
use Rattle.search.specs.declared.relation.Relation.{Relation}
use Rattle.search.specs.declared.relation.Relation.TheVariants.{Equal, FirstWithin, SecondWithin, Neither}
use Rattle.search.specs.FirstKept.{found}

pub record OnlyIn (A B : List ℕ → Type 0) (w : List ℕ) : Type 0 where
  pub here : A w
  pub not_there : B w → ⊥

abbrev pub Within : (List ℕ → Type 0) → (List ℕ → Type 0) → Type 0
Within A B = (w : List ℕ) → A w → B w

pub record RelationValue : Type 0 where
  pub number : ℕ
  pub only_first : Option ℕ
  pub only_second : Option ℕ

abbrev pub relation_value : Relation → RelationValue
relation_value Equal = record { number = 0; only_first = None; only_second = None }
relation_value (FirstWithin b) = record { number = 1; only_first = None; only_second = Some b }
relation_value (SecondWithin a) = record { number = 2; only_first = Some a; only_second = None }
relation_value (Neither a b) = record { number = 3; only_first = Some a; only_second = Some b }

abbrev pub relation : Option ℕ → Option ℕ → Relation
relation None None = Equal
relation None (Some b) = FirstWithin b
relation (Some a) None = SecondWithin a
relation (Some a) (Some b) = Neither a b

abbrev pub only : Automaton → Automaton → Searched StepCell
only m n = found (difference m n)

abbrev pub related : Automaton → Automaton → Relation
related m n = relation (option_map length (only m n).word) (option_map length (only n m).word)

abbrev pub room_for_both : {T : Type 0} → ℕ → ℕ → ℕ → ℕ → ℕ → T → Result T Fault
room_for_both n first_cells second_cells first_bytes second_bytes x =
    and_then (sided_answer First (cells_checked Search n first_cells)) (λ _.
    and_then (sided_answer Second (cells_checked Search n second_cells)) (λ _.
    and_then (sided_answer First (bytes_checked Search n first_bytes)) (λ _.
    and_then (sided_answer Second (bytes_checked Search n second_bytes)) (λ _.
    Ok x))))

abbrev pub checked : {T : Type 0} → Automaton → Automaton → ℕ → ℕ → ℕ → ℕ → T → Result T Fault
checked m n first_cells second_cells first_bytes second_bytes x =
    and_then (fit_answer m.letters n.letters (pairs m n) (tt {0})) (λ _. room_for_both (pairs m n) first_cells second_cells first_bytes second_bytes x)

pub record Related (A B : List ℕ → Type 0) (r : Relation) (first second : Option (List ℕ)) : Type 0 where
  -- "equal" exactly when both languages have the same words,
  pub equal : ((relation_value r).number ≡ 0) ↔ ((w : List ℕ) → A w ↔ B w)
  -- "first within second" exactly when every word of the first is in the second, and not the reverse,
  pub first_within : ((relation_value r).number ≡ 1) ↔ (Within A B × (Within B A → ⊥))
  -- "second within first" exactly when every word of the second is in the first, and not the reverse,
  pub second_within : ((relation_value r).number ≡ 2) ↔ (Within B A × (Within A B → ⊥))
  -- and "neither" exactly when neither is so
  pub neither : ((relation_value r).number ≡ 3) ↔ ((Within A B → ⊥) × (Within B A → ⊥))
  -- the first word that is handed over comes before every other that only the first language has, and all of these have at least as many letters
  pub only_first : (w : List ℕ) → first ≡ Some w → IsFirst (OnlyIn A B) w
  pub first_shortest : (w : List ℕ) → first ≡ Some w → (v : List ℕ) → OnlyIn A B v → length w ≤ length v
  -- the second likewise, of those that only the second language has
  pub only_second : (w : List ℕ) → second ≡ Some w → IsFirst (OnlyIn B A) w
  pub second_shortest : (w : List ℕ) → second ≡ Some w → (v : List ℕ) → OnlyIn B A v → length w ≤ length v
  -- the relation says how many letters these words have
  pub first_long : (relation_value r).only_first ≡ option_map length first
  pub second_long : (relation_value r).only_second ≡ option_map length second
