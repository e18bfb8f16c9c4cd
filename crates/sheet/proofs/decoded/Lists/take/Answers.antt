use Rattle.sheet.proofs.Strays.{all_there, one_astray}
use Rattle.std.proofs.Common.{rules, arith}
use Rattle.sheet.proofs.decoded.Lists.take.Goals as goal

pub returns-then-not-take-clause-there : goal.returns-then-not-take-clause-there
returns-then-not-take-clause-there c =
    let rows = c.args.rows.now in
    one_astray rows.bytes.now rows.size.states c.loop-state.state rows.headed.states (search rules) (search rules)

pub returns-clause-there : goal.returns-clause-there
returns-clause-there c =
    let rows = c.args.rows.now in
    all_there rows.bytes.now rows.size.states rows.headed.states (λ p l. c.loop-state.invariant.there p (omega arith))
