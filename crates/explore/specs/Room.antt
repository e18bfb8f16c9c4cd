-- The room that a search over a rule of n states asks for: as many cells, and as many bytes in the buffer for the word.
--   cells_checked   the answer to so many cells, in the layer that asks
--   bytes_checked   the answer to so many bytes
--   room_checked    the answer to both, where cells are looked at first; and this, if neither is refused
use Rattle.std.specs.Prelude.{ℕ, cond, Ok, Err, Result, nat_lt}
use Rattle.automaton.specs.declared.fault.Fault.{Fault}
use Rattle.automaton.specs.declared.kind.FaultKind.TheVariants.{TooFewCells, BufferTooShort}
use Rattle.automaton.specs.declared.layer.Layer.{Layer}
use Rattle.automaton.specs.Faults.{and_then, refusal}

abbrev pub cells_checked : Layer → ℕ → ℕ → Result (Unit {0}) Fault
cells_checked layer n cells = cond (nat_lt cells n) (Err (refusal TooFewCells layer)) (Ok tt)

abbrev pub bytes_checked : Layer → ℕ → ℕ → Result (Unit {0}) Fault
bytes_checked layer n bytes = cond (nat_lt bytes n) (Err (refusal BufferTooShort layer)) (Ok tt)

abbrev pub room_checked : {T : Type 0} → Layer → ℕ → ℕ → ℕ → T → Result T Fault
room_checked layer n cells bytes x = and_then (cells_checked layer n cells) (λ _. and_then (bytes_checked layer n bytes) (λ _. Ok x))
