use Rattle.std.proofs.Common.{◌≡◌, ◌<◌, drop}
use Rattle.automaton.specs.Meanings.{meaning}
use Rattle.automaton.specs.Words.{spelled, walk_answer, walk_from}
use Rattle.automaton.proofs.walk.follow.Given as goal

abbrev pub invariant-loop-i : goal.invariant-loop-i
invariant-loop-i g l =
    let m = meaning g.R.Rule l.rule in
    let w = spelled l.word in
    (l.state < m.count) × (walk_from m l.i l.state (drop l.i w) ≡ walk_answer m l.from w)
