-- Trails: how a cell was reached, read off the cells. Each cell has an origin, the cell that it was reached from, and a letter.
--   origin_of    the cell that cell i was reached from; an origin that does not stand before its cell counts as cell 0
--   trail_in     the last letters of the trail of cell i, at most so many; a cell that is not there has origin 0 and letter 0
--   trail        the letters on the way from cell 0 to cell i, cell 0's own letter left out, read off the cells' origins and letters
--   trail_of     the same, where two functions read the origin and the letter of a cell
use Rattle.std.specs.Prelude.{ℕ, zero, suc, cond, List, [], ◌∷◌, ◌++◌, map, ◌==◌, nat_lt, slice_index}

abbrev pub origin_of : List ℕ → ℕ → ℕ
origin_of origins i = cond (nat_lt (slice_index origins i) i) (slice_index origins i) 0

unfoldable pub trail_in : ℕ → List ℕ → List ℕ → ℕ → List ℕ
trail_in zero origins letters i = []
trail_in (suc most) origins letters i = cond (i == 0) [] (trail_in most origins letters (origin_of origins i) ++ (slice_index letters i ∷ []))

abbrev pub trail : List ℕ → List ℕ → ℕ → List ℕ
trail origins letters i = trail_in i origins letters i

abbrev pub trail_of : {C : Type 0} → (C → ℕ) → (C → ℕ) → List C → ℕ → List ℕ
trail_of origin letter cells i = trail (map origin cells) (map letter cells) i
