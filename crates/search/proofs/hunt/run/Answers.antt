use Rattle.std.proofs.Common.{arith}
use Rattle.explore.proofs.Underway.{grown_then, lent_cells}
use Rattle.search.proofs.Hunts.{stands_first}
use Rattle.search.proofs.hunt.run.Goals as goal

pub overflow_cast-start : goal.overflow_cast-start
overflow_cast-start g c = let b = g.R.Rule.bounds c.args.rule.now in omega (arith, b.begins, b.few_states, c.start_state.ensures)

pub note-requires-clause-stands : goal.note-requires-clause-stands
note-requires-clause-stands g c = stands_first _ c.none-seen.result c.args.queue.now c.none-seen.ensures c.requires.none_noted c.requires.room

pub note-requires-clause-there : goal.note-requires-clause-there
note-requires-clause-there g c = let b = (g.R.Rule.bounds c.args.rule.now).begins in omega (arith, b, c.start_state.ensures)

pub returns-clause-cells : goal.returns-clause-cells
returns-clause-cells g c =
    lent_cells c.args.queue.now c.search.new.queue (grown_then c.args.queue.now c.note.new.queue c.search.new.queue c.note.ensures.grown c.search.ensures.grown) c.requires.none_noted
