use Rattle.std.proofs.Common.{◌==◌}
use Rattle.std.specs.List.{count_by}
use Rattle.register.proofs.Walk.{Walking}
use Rattle.register.proofs.classes.relabel.Given as goal

abbrev pub invariant-loop-labels : goal.invariant-loop-labels
invariant-loop-labels l = Walking l.initial.labels l.labels l.ring l.start l.to l.at

abbrev pub decreases-loop-labels : goal.decreases-loop-labels
decreases-loop-labels l = count_by (λ x. x == l.from) l.labels
