-- Which states were seen, by the mark of each.
--   was_seen   the state has a mark
--   Added      this state was seen, and of all others what was seen before
use Rattle.std.specs.Prelude.{◌≡◌, ℕ, ◌<◌, Bool, true, false, ◌==◌, if◌then◌else◌, slice_index_or}
use Rattle.search.specs.declared.seen.Seen.{Seen}

abbrev pub was_seen : Seen → ℕ → Bool
was_seen s x = slice_index_or s.marks x false

abbrev pub Added : Seen → Seen → ℕ → Type 0
Added old new state = (x : ℕ) → x < 4096 → was_seen new x ≡ (if x == state then true else was_seen old x)
