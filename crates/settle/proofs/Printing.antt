-- The line of a settlement that is right is what is printed for two sheets.
use Rattle.std.proofs.Common.{◌≡◌, ℕ, List, Ok, Err, Result, inr}
use Rattle.std.specs.Prelude.{IfOk}
use Rattle.settlement.specs.declared.settlement.Settlement.{Settlement}
use Rattle.settle.specs.Reports.{Printed, handed_text}
use Rattle.settlement.specs.Settlements.{Settled, room_checked}

pub printed : {T E : Type 0} (bytes : T → List ℕ) (first second : List ℕ) (s : Settlement) (buffer : List ℕ) → room_checked first second 4096 ≡ Ok tt → Settled first second s buffer →
    (r : Result T E) → IfOk r (λ t. bytes t ≡ handed_text s buffer) → IfOk r (λ t. Printed first second (bytes t))
printed bytes first second s buffer unrefused settled (Ok t) e = inr (s, buffer, record { unrefused = unrefused; settled = settled; line = e })
printed bytes first second s buffer unrefused settled (Err f) e = tt
