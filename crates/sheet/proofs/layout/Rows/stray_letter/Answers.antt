use Rattle.std.proofs.Common.{◌<◌, ℕ, subst, sym}
use Rattle.sheet.proofs.Strays.{none_in_row}
use Rattle.sheet.proofs.layout.Rows.stray_letter.Goals as goal

pub returns-then-is_closed_row : goal.returns-then-is_closed_row
returns-then-is_closed_row c =
    let size = c.args.self.now.headed in
    none_in_row c.args.self.now.bytes.now c.args.state c.args.self.now.size.states size.states
    (λ a l. c.is_closed_row.ensures c.if-is_closed_row.true a (subst (λ (k : ℕ). a < k) (sym size.letters) l))
