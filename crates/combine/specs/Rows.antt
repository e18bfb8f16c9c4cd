-- The rows of pairs of states.
--   NumbersPairs   the first k places of a row hold the numbers of the pairs in two rows, place by place, as 16 bits count: n is how many states the second rule has
use Rattle.std.specs.Prelude.{◌≡◌, ℕ, ◌+◌, ◌*◌, ◌%◌, ◌<◌, List, slice_index}

abbrev pub NumbersPairs : ℕ → ℕ → List ℕ → List ℕ → List ℕ → Type 0
NumbersPairs k n first second row = (a : ℕ) → a < k → slice_index row a ≡ (slice_index first a * n % 65536 + slice_index second a) % 65536
