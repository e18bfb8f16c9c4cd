use Rattle.std.proofs.Common.{◌≡◌, ◌≤◌, ◌+◌, ◌++◌, length, take, drop, reverse}
use Rattle.explore.specs.Trails.{trail_of}
use Rattle.explore.proofs.trail.read_back.Given as goal

abbrev pub invariant-loop-i : goal.invariant-loop-i
invariant-loop-i g l =
    let trail = trail_of g.C.Cell.reached_from g.C.Cell.reached_by l.cells in
    (l.n + l.i ≤ l.at)
    × (length l.spare ≡ length l.initial.spare)
    × (take l.n l.spare ++ reverse (trail l.i) ≡ reverse (trail l.at))
    × (drop l.n l.spare ≡ drop l.n l.initial.spare)

abbrev pub decreases-loop-i : goal.decreases-loop-i
decreases-loop-i g l = l.i
