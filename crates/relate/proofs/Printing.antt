-- The line of a relation that is right is what is printed for two sheets.
use Rattle.std.proofs.Common.{◌≡◌, ℕ, List, Ok, Err, Result, inr}
use Rattle.std.specs.Prelude.{IfOk}
use Rattle.relate.specs.Reports.{Printed, handed_text}
use Rattle.search.specs.declared.relation.Relation.{Relation}
use Rattle.settlement.specs.Relations.{SheetsRelated, relation_checked}

pub printed : {T E : Type 0} (bytes : T → List ℕ) (first second : List ℕ) (r : Relation) (a b : List ℕ) →
    relation_checked first second 4096 4096 ≡ Ok r → SheetsRelated first second r a b →
    (t : Result T E) → IfOk t (λ line. bytes line ≡ handed_text r a b) → IfOk t (λ line. Printed first second (bytes line))
printed bytes first second r a b unrefused related (Ok line) e = inr (r, a, b, record { unrefused = unrefused; related = related; line = e })
printed bytes first second r a b unrefused related (Err f) e = tt
