use Rattle.std.proofs.Common.{◌≡◌, ℕ, ◌+◌, ◌%◌, ◌<◌, slice_index}
use Rattle.automaton.proofs.rows.raise_each.Given as goal

abbrev pub invariant-loop-place : goal.invariant-loop-place
invariant-loop-place l = (a : ℕ) → a < l.place → slice_index l.spare a ≡ (l.raise + slice_index l.row a) % 65536
