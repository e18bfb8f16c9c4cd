use Rattle.std.proofs.Common.{◌≡◌, vec_len}
use Rattle.automaton.specs.Meanings.{meaning}
use Rattle.dense.specs.Listed.{RowsListed}
use Rattle.dense.proofs.fill.rows_of.Given as goal

abbrev pub invariant-loop-state : goal.invariant-loop-state
invariant-loop-state g l = record { long : vec_len l.rows ≡ l.state; listed : RowsListed (meaning g.R.Rule l.rule) l.rows.items }
