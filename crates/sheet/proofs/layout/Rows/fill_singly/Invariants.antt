use Rattle.std.proofs.Common.{◌≡◌, ℕ, ◌+◌, ◌<◌, slice_index}
use Rattle.sheet.specs.Layout.{next_in}
use Rattle.sheet.proofs.layout.Rows.fill_singly.Given as goal

abbrev pub invariant-loop-letter : goal.invariant-loop-letter
invariant-loop-letter l = (a : ℕ) → a < l.letter → slice_index l.row a ≡ l.raise + next_in l.self.bytes.now l.state a
