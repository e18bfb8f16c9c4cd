use Rattle.std.specs.Prelude.{string_bytes}
use Rattle.settle.proofs.Printing.{printed}
use Rattle.settle.proofs.line.report_settlement.Goals as goal

pub returns-in-Ok : goal.returns-in-Ok
returns-in-Ok c =
    printed string_bytes c.args.first.now c.args.second.now c.in-Ok.settlement c.settle.new.word c.in-Ok.ensures.accepted c.in-Ok.ensures.settled c.line_of.result c.line_of.ensures
