use Rattle.std.proofs.Common.{rules}
use Rattle.settlement.proofs.Relating.{answered, first_written, refused, room_there, second_written, sheets_related}
use Rattle.settlement.proofs.relation.relate_sheets.Goals as goal

pub returns-clause-answer : goal.returns-clause-answer
returns-clause-answer c =
    answered _ _ _ _ c.in_ok-first.ensures.opened c.in_ok-second.ensures.opened _ _ _ _ _ c.relate.ensures.answer
    (room_there _ _ _ _ _ _ _ _ _ c.size.ensures c.size-2.ensures c.pairs_of-pairs.ensures c.in_ok-first_cells.ensures.long (search rules))
    (room_there _ _ _ _ _ _ _ _ _ c.size.ensures c.size-2.ensures c.pairs_of-pairs.ensures c.in_ok-second_cells.ensures.long (search rules))

pub returns-clause-related : goal.returns-clause-related
returns-clause-related c =
    sheets_related _ _ _ _ c.in_ok-first.ensures.opened c.in_ok-second.ensures.opened _ _ _ _ _ c.relate.ensures.answer
    (room_there _ _ _ _ _ _ _ _ _ c.size.ensures c.size-2.ensures c.pairs_of-pairs.ensures c.in_ok-first_cells.ensures.long (search rules))
    (room_there _ _ _ _ _ _ _ _ _ c.size.ensures c.size-2.ensures c.pairs_of-pairs.ensures c.in_ok-second_cells.ensures.long (search rules)) _ _ c.relate.ensures.law

pub returns-clause-refused : goal.returns-clause-refused
returns-clause-refused c =
    refused _ _ _ _ c.in_ok-first.ensures.opened c.in_ok-second.ensures.opened _ _ _ _ _ c.relate.ensures.answer
    (room_there _ _ _ _ _ _ _ _ _ c.size.ensures c.size-2.ensures c.pairs_of-pairs.ensures c.in_ok-first_cells.ensures.long (search rules))
    (room_there _ _ _ _ _ _ _ _ _ c.size.ensures c.size-2.ensures c.pairs_of-pairs.ensures c.in_ok-second_cells.ensures.long (search rules))

pub returns-clause-first_word : goal.returns-clause-first_word
returns-clause-first_word c = first_written _ _ _ _ c.in_ok-first.ensures.opened c.in_ok-second.ensures.opened c.relate.result _ _ c.relate.ensures.first_word

pub returns-clause-second_word : goal.returns-clause-second_word
returns-clause-second_word c = second_written _ _ _ _ c.in_ok-first.ensures.opened c.in_ok-second.ensures.opened c.relate.result _ _ c.relate.ensures.second_word
