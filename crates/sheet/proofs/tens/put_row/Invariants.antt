use Rattle.std.proofs.Common.{◌≡◌, ℕ, ◌+◌, ◌*◌, ◌<◌, slice_index}
use Rattle.sheet.specs.Bits.{ten}
use Rattle.sheet.proofs.tens.put_row.Given as goal

abbrev pub invariant-loop-k : goal.invariant-loop-k
invariant-loop-k l = (i : ℕ) → i < 4 * l.k → slice_index l.row i ≡ l.raise + ten l.bytes l.at i
