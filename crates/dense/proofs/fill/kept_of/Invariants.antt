use Rattle.std.proofs.Common.{◌≡◌, vec_len}
use Rattle.automaton.specs.Meanings.{meaning}
use Rattle.dense.specs.Listed.{KeptListed}
use Rattle.dense.proofs.fill.kept_of.Given as goal

abbrev pub invariant-loop-state : goal.invariant-loop-state
invariant-loop-state g l = record { long : vec_len l.kept ≡ l.state; listed : KeptListed (meaning g.R.Rule l.rule) l.kept.items }
