-- A search for a kept state under way: which states were seen, and the queue of the noted ones.
--   kept_states   the kind of this search: over single states, and a kept one ends it
--   hunted        how far it comes from the start: until it has ended, or no cell is left
--   word_to       the word that led to a kept state, if the search has ended: the trail of the cell, and then the letter
--   next_cell     the cell of the state that a cell's state leads to under a letter
--   Stands        the states that were seen are those of the noted cells, which are there and differ from each other; and there are as many cells as states, so
--                 that there is always room
use Rattle.std.specs.Prelude.{◌≡◌, ℕ, ◌+◌, ◌<◌, ◌≤◌, List, [], ◌∷◌, ◌++◌, length, All, Option, option_map}
use Rattle.automaton.specs.Automata.{Automaton}
use Rattle.explore.specs.declared.queue.Queue.{Queue}
use Rattle.explore.specs.declared.step_cell.StepCell.{StepCell}
use Rattle.explore.specs.Queues.{further_cells, noted_cells}
use Rattle.explore.specs.Search.{Kind, Progress, begun, taken}
use Rattle.explore.specs.States.{noted_state, states, unnoted}
use Rattle.explore.specs.Trails.{trail_of}
use Rattle.search.specs.declared.seen.Seen.{Seen}
use Rattle.search.specs.Marks.{was_seen}

abbrev pub kept_states : Automaton → Kind
kept_states m = states m m.kept

abbrev pub hunted : Automaton → Progress StepCell
hunted m = taken (kept_states m) m.letters (begun (kept_states m) m.start) m.count

abbrev pub word_to : List StepCell → Option (ℕ × ℕ) → Option (List ℕ)
word_to cells ended = option_map (λ e. trail_of (λ (c : StepCell). c.origin) (λ (c : StepCell). c.letter) cells e.0 ++ (e.1 ∷ [])) ended

abbrev pub next_cell : Automaton → StepCell → ℕ → ℕ → StepCell
next_cell m c i a = record { state = m.next c.state a; origin = i; letter = a }

pub record Stands (n : ℕ) (seen : Seen) (q : Queue StepCell) : Type 0 where
  pub marked : (x : ℕ) → x < 4096 → was_seen seen x ≡ noted_state (noted_cells q) x
  pub inside : All (λ c. c.state < n) (noted_cells q)
  pub fewer : length (noted_cells q) + unnoted (noted_cells q) n ≡ n
  pub room : n ≤ length (noted_cells q) + length (further_cells q)
