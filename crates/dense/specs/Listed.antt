-- A rule whose answers are all written down.
--   listed        the automaton of written answers: for each state a kept answer, and a row with its next state under each letter
--   RowsListed    the next states of an automaton are written down row by row, as far as there are rows
--   KeptListed    so are its kept answers
use Rattle.std.specs.Prelude.{◌≡◌, ℕ, ◌<◌, Bool, false, List, [], length, slice_index, slice_index_or}
use Rattle.automaton.specs.Automata.{Automaton, automaton}

abbrev pub listed : ℕ → ℕ → ℕ → List Bool → List (List ℕ) → Automaton
listed n k s kept rows = automaton n k s (λ p. slice_index_or kept p false) (λ p a. slice_index (slice_index_or rows p []) a)

abbrev pub KeptListed : Automaton → List Bool → Type 0
KeptListed m kept = (p : ℕ) → p < length kept → slice_index_or kept p false ≡ m.kept p

abbrev pub RowsListed : Automaton → List (List ℕ) → Type 0
RowsListed m rows = (p a : ℕ) → p < length rows → a < m.letters → slice_index (slice_index_or rows p []) a ≡ m.next p a
