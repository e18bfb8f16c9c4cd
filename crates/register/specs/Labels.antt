-- What a table of labels says: two states are of one class exactly if they have one label.
--   same     two states have one label
--   Inside   every entry of a table of 4,096 is below 4,096
use Rattle.std.specs.Prelude.{ℕ, ◌<◌, Bool, List, ◌==◌, slice_index}

abbrev pub same : List ℕ → ℕ → ℕ → Bool
same labels u v = slice_index labels u == slice_index labels v

abbrev pub Inside : List ℕ → Type 0
Inside table = (u : ℕ) → u < 4096 → slice_index table u < 4096
