use Rattle.std.proofs.Common.{◌≡◌, None, ap, arith}
use Rattle.std.proofs.lemmas.Grind.{common_steps}
use Rattle.sheet.specs.Layout.{tabled}
use Rattle.sheet.specs.Opening.{fault_of}
use Rattle.sheet.proofs.Checked.{decoded, undecoded}
use Rattle.sheet.proofs.decoded.Decoded.of.Goals as goal

pub returns-in_default-clause-refused : goal.returns-in_default-clause-refused
returns-in_default-clause-refused c = undecoded c.args.sheet.now c.refused.result c.refused.ensures

pub returns-then-not-take-clause-refused : goal.returns-then-not-take-clause-refused
returns-then-not-take-clause-refused c = undecoded c.args.sheet.now c.refused-then-not-take.result c.refused-then-not-take.ensures

pub returns-clause-decoded : goal.returns-clause-decoded
returns-clause-decoded c =
    let faultless : fault_of c.args.sheet.now ≡ None = grind (arith, common_steps) in
    decoded c.args.sheet.now _ (ap tabled c.in_ok-rows.ensures.rows) faultless
