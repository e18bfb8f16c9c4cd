use Rattle.std.specs.Prelude.{string_bytes}
use Rattle.relate.proofs.Printing.{printed}
use Rattle.relate.proofs.line.report_relation.Goals as goal

pub returns-in-Ok : goal.returns-in-Ok
returns-in-Ok c =
    printed string_bytes c.args.first.now c.args.second.now c.in-Ok.relation c.relate_sheets.new.first_word c.relate_sheets.new.second_word c.in-Ok.ensures.answer c.in-Ok.ensures.related
    c.line_of.result c.line_of.ensures
