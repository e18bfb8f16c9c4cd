-- Queues: what a queue over a lent slice of cells holds.
--   noted_cells     the cells that were noted, in the order in which they were
--   further_cells   the cells of the slice behind these
--   has_room        whether one more can be noted
use Rattle.std.specs.Prelude.{Bool, List, length, take, drop, nat_lt}
use Rattle.explore.specs.declared.queue.Queue.{Queue}

abbrev pub noted_cells : {T : Type 0} → Queue T → List T
noted_cells q = take q.noted q.cells.now

abbrev pub further_cells : {T : Type 0} → Queue T → List T
further_cells q = drop q.noted q.cells.now

abbrev pub has_room : {T : Type 0} → Queue T → Bool
has_room q = nat_lt q.noted (length q.cells.now)
