use Rattle.register.proofs.Seen.{Counted}
use Rattle.register.proofs.classes.count_labels.Given as goal

abbrev pub invariant-loop-i : goal.invariant-loop-i
invariant-loop-i l = Counted l.labels l.seen l.i l.total
