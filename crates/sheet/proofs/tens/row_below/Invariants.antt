use Rattle.std.proofs.Common.{ℕ, ◌*◌, ◌<◌}
use Rattle.sheet.specs.Bits.{ten}
use Rattle.sheet.proofs.tens.row_below.Given as goal

abbrev pub invariant-loop-k : goal.invariant-loop-k
invariant-loop-k l = (i : ℕ) → i < 4 * l.k → ten l.bytes l.at i < l.size.states
