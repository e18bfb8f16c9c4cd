-- What relating two table sheets promises: how the automata on them are related, by the words that they accept.
--   relation_checked   the answer to two sheets, with so many bytes in the buffers for the two words: the first refusal that applies, of the first sheet, of the second,
--                      of rules that do not fit, of a buffer with fewer bytes than states; and if none does, the relation of the two automata. Each search has 4,096 cells
--   SheetsRelated      the relation of two sheets is right, with the words that are handed over; `drawn` is the automaton that is drawn on a sheet
--   Unrelated          a refusal of two sheets is the first that applies, but for want of memory
use Rattle.std.specs.Prelude.{◌≡◌, ℕ, ◌⊎◌, List, Err, Result}
use Rattle.automaton.specs.declared.fault.Fault.{Fault}
use Rattle.automaton.specs.Diagrams.{Accepts}
use Rattle.combine.specs.Laws.{FitPairs}
use Rattle.search.specs.declared.relation.Relation.{Relation}
use Rattle.search.specs.FirstKept.{handed}
use Rattle.search.specs.Relations.{Related, checked, related, relation_value}
use Rattle.settlement.specs.Openings.{NoMemory, both_opened}
use Rattle.sheet.specs.Layout.{WellFormed, drawn, tabled}

abbrev pub relation_checked : List ℕ → List ℕ → ℕ → ℕ → Result Relation Fault
relation_checked first second first_bytes second_bytes =
    both_opened first second (checked (tabled first) (tabled second) 4096 4096 first_bytes second_bytes (related (tabled first) (tabled second)))

pub record SheetsRelated (first second : List ℕ) (r : Relation) (first_word second_word : List ℕ) : Type 0 where
  pub first_formed : WellFormed first
  pub second_formed : WellFormed second
  pub fit : FitPairs (tabled first) (tabled second)
  pub related : Related (Accepts (drawn first)) (Accepts (drawn second)) r (handed (relation_value r).only_first first_word) (handed (relation_value r).only_second second_word)

abbrev pub Unrelated : List ℕ → List ℕ → ℕ → ℕ → Fault → Type 0
Unrelated first second first_bytes second_bytes f = (relation_checked first second first_bytes second_bytes ≡ Err f) ⊎ NoMemory first second f
