use Rattle.explore.proofs.Underway.{lent_cells}
use Rattle.register.proofs.Attempts.{goes_then}
use Rattle.register.proofs.attempt.Attempt.run.Goals as goal

pub returns-clause-cells : goal.returns-clause-cells
returns-clause-cells g c =
    lent_cells c.args.queue.now c.search.new.queue
    (goes_then c.args.self.now c.note.new.self c.search.new.self c.args.queue.now c.note.new.queue c.search.new.queue c.note.ensures.goes c.search.ensures.goes).grown c.requires.1.1.1.1.1.1.0
