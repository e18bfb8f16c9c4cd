-- A search under way, with the queue of the cells that it has noted so far.
--   progress   how far it has come: the noted cells, and the cell and the letter that ended it, if it has ended
--   Grown      the queue has gone on: the same loan, at least as many cells noted, and all cells behind these as they were
use Rattle.std.specs.Prelude.{◌≡◌, ℕ, ◌≤◌, Option, length, drop}
use Rattle.explore.specs.declared.queue.Queue.{Queue}
use Rattle.explore.specs.Queues.{further_cells, noted_cells}
use Rattle.explore.specs.Search.{Progress}

abbrev pub progress : {C : Type 0} → Queue C → Option (ℕ × ℕ) → Progress C
progress q ended = record { noted = noted_cells q; ended = ended }

pub record Grown {C : Type 0} (before after : Queue C) : Type 0 where
  pub same_reference : after.cells.ghost_name ≡ before.cells.ghost_name
  pub more : length (noted_cells before) ≤ length (noted_cells after)
  pub further : further_cells after ≡ drop (length (noted_cells after)) before.cells.now
