use Rattle.combine.specs.Rows.{NumbersPairs}
use Rattle.combine.proofs.sizes.number_row.Given as goal

abbrev pub invariant-loop-place : goal.invariant-loop-place
invariant-loop-place l = NumbersPairs l.place l.states l.first l.second l.row
