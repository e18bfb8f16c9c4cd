-- What is printed of two sheets, as bytes.
--   word_in        the word of a relation that stands at the beginning of a buffer, with so many letters; empty where the relation has none
--   relation_text  the line of a relation, with its two words: the first that only the first sheet keeps, and the first that only the second keeps
--   handed_text    the line of a relation, with the words that it hands over in two buffers
--   LineOf         the line of two sheets to which no refusal applies, where there is room for words of 4,096 letters: that of a relation that is right, with the words that
--                  it hands over in two buffers
--   Printed        what is printed for two sheets: the line of the first refusal that applies, or if none does, that of a relation
--   PrintedLaw     for any two sheets that is one line and no other
use Rattle.std.specs.Prelude.{◌≡◌, ◌⊎◌, ℕ, List, [], ◌++◌, Option, Ok, Err, codes, unwrap_or}
use Rattle.automaton.specs.declared.fault.Fault.{Fault}
use Rattle.report.specs.Texts.{refused_text, word_text}
use Rattle.search.specs.declared.relation.Relation.{Relation}
use Rattle.search.specs.declared.relation.Relation.TheVariants.{Equal, FirstWithin, SecondWithin, Neither}
use Rattle.search.specs.FirstKept.{handed}
use Rattle.search.specs.Relations.{relation_value}
use Rattle.settlement.specs.Relations.{SheetsRelated, relation_checked}

abbrev pub word_in : Option ℕ → List ℕ → List ℕ
word_in long buffer = unwrap_or (handed long buffer) []

abbrev pub relation_text : Relation → List ℕ → List ℕ → List ℕ
relation_text Equal first_word second_word = codes "equal\n"
relation_text (FirstWithin n) first_word second_word = codes "first within second " ++ (word_text second_word ++ codes "\n")
relation_text (SecondWithin n) first_word second_word = codes "second within first " ++ (word_text first_word ++ codes "\n")
relation_text (Neither n m) first_word second_word = codes "neither " ++ (word_text first_word ++ (codes " " ++ (word_text second_word ++ codes "\n")))

abbrev pub handed_text : Relation → List ℕ → List ℕ → List ℕ
handed_text r first_buffer second_buffer = relation_text r (word_in (relation_value r).only_first first_buffer) (word_in (relation_value r).only_second second_buffer)

pub record LineOf (first second out : List ℕ) (r : Relation) (first_buffer second_buffer : List ℕ) : Type 0 where
  pub unrefused : relation_checked first second 4096 4096 ≡ Ok r
  pub related : SheetsRelated first second r first_buffer second_buffer
  pub line : out ≡ handed_text r first_buffer second_buffer

abbrev pub Printed : List ℕ → List ℕ → List ℕ → Type 0
Printed first second out =
    ((f : Fault) × (relation_checked first second 4096 4096 ≡ Err f) × (out ≡ refused_text f)) ⊎
    ((r : Relation) × (first_buffer : List ℕ) × (second_buffer : List ℕ) × LineOf first second out r first_buffer second_buffer)

abbrev pub PrintedLaw : Type 0
PrintedLaw = (first second out other : List ℕ) → Printed first second out → Printed first second other → other ≡ out
