use Rattle.std.proofs.Common.{◌<◌, ℕ, Option, is_none, ap, subst, sym, rules}
use Rattle.sheet.specs.Layout.{next_in}
use Rattle.sheet.proofs.Strays.{none_in_row}
use Rattle.sheet.proofs.layout.Rows.take.Goals as goal

pub returns-then-take_row-clause-there : goal.returns-then-take_row-clause-there
returns-then-take_row-clause-there c =
    let bs = c.args.self.now.bytes.now in
    let n = c.args.self.now.size.states in
    let there : (a : ℕ) → a < c.args.self.now.size.letters → next_in bs c.args.state a < n = search rules in
    let size = c.args.self.now.headed in
    ap (λ (o : Option ℕ). is_none o) (none_in_row bs c.args.state n size.states (λ a l. there a (subst (λ (k : ℕ). a < k) (sym size.letters) l)))
