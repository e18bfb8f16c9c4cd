use Rattle.std.proofs.Common.{◌≡◌}
use Rattle.register.proofs.tests.chain.Given as goal

abbrev pub invariant-loop-i : goal.invariant-loop-i
invariant-loop-i l = l.table.states ≡ 202
