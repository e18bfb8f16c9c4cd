-- A table sheet whose rows are written down in lists.
--   Listed   of the first n states it is written down which are kept, and the next states, in a row for each of them
use Rattle.std.specs.Prelude.{◌≡◌, ℕ, ◌<◌, Bool, false, List, [], slice_index_or}
use Rattle.automaton.specs.Answers.{HoldsRow}
use Rattle.sheet.specs.Layout.{kept_in, letter_count, next_in}

pub record Listed (bs : List ℕ) (n : ℕ) (kept : List Bool) (next : List (List ℕ)) : Type 0 where
  pub keeps : (p : ℕ) → p < n → slice_index_or kept p false ≡ kept_in bs p
  pub leads : (p : ℕ) → p < n → HoldsRow (letter_count bs) (next_in bs) p 0 (slice_index_or next p [])
