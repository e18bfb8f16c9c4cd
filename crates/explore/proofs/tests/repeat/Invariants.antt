use Rattle.std.proofs.Common.{◌≡◌, length, replicate, ◌+◌, ◌-◌}
use Rattle.explore.specs.Queues.{noted_cells}
use Rattle.explore.proofs.tests.repeat.Given as goal

abbrev pub invariant-loop-next : goal.invariant-loop-next
invariant-loop-next l =
    (l.queue.cells.ghost_name ≡ l.initial.queue.cells.ghost_name)
    × (length l.queue.cells.now ≡ length l.initial.queue.cells.now)
    × (noted_cells l.queue ≡ replicate (l.queue.taken + 1) l.fn.cell)

abbrev pub decreases-loop-next : goal.decreases-loop-next
decreases-loop-next l = length l.initial.queue.cells.now - l.queue.taken
