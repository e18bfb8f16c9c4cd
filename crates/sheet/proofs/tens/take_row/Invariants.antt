use Rattle.std.proofs.Common.{◌≡◌, ℕ, List, ◌*◌, ◌<◌, slice_index}
use Rattle.sheet.specs.Bits.{ten}
use Rattle.sheet.proofs.tens.take_row.Given as goal

pub record Taken (bytes : List ℕ) (at states letters k : ℕ) (row : List ℕ) : Type 0 where
  pub there : (a : ℕ) → a < 4 * k → a < letters → ten bytes at a < states
  pub taken : (a : ℕ) → a < 4 * k → slice_index row a ≡ ten bytes at a

abbrev pub invariant-loop-k : goal.invariant-loop-k
invariant-loop-k l = Taken l.bytes l.at l.size.states l.size.letters l.k l.row
