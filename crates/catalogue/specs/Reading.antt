-- What reading a line answers.
--   Ran         how many bytes that pass a test a text begins with, counted up to a most; a test by its answers
--   LineRead    a line at the beginning of a text, with its lot and its length, or the place of the first byte that cannot go on
use Rattle.std.specs.Prelude.{ℕ, ◌<◌, ◌≤◌, Bool, true, false, List, length, Ok, Err, Result, slice_index}
use Rattle.catalogue.specs.declared.line.Line.{Line}
use Rattle.catalogue.specs.Entries.{LotAt, told}
use Rattle.catalogue.specs.Lines.{Stuck}

pub record Ran (text : List ℕ) (Answers : ℕ → Bool → Type 0) (most r : ℕ) : Type 0 where
  pub within : r ≤ length text
  pub few : r ≤ most
  pub all : (k : ℕ) → k < r → Answers (slice_index text k) true
  pub stops : r < length text → r < most → Answers (slice_index text r) false

abbrev pub LineRead : List ℕ → Result Line ℕ → Type 0
LineRead text (Ok l) = (digits : List ℕ) × LotAt text 0 (told l.lot) l.len digits
LineRead text (Err i) = Stuck text i
