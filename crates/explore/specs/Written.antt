-- Written words: when the trail of a cell is written, and what a buffer holds afterwards.
--   can_write    whether there is a cell i, and both buffers are long enough: the spare one has i bytes, and the word's has at least as many as are needed
--   answered     how many letters were written, if any were to be
--   over         a buffer to whose beginning a word was written, or a slice with cells noted at its beginning; what stands behind is as it was
--   if_answered  one thing if a call was answered, another if it was refused
--   written      a buffer to whose beginning a word was written, if it was to be
use Rattle.std.specs.Prelude.{ℕ, Bool, cond, List, ◌++◌, ◌&&◌, length, drop, Option, Some, None, Ok, Err, Result, nat_lt, nat_le}
use Rattle.automaton.specs.declared.fault.Fault.{Fault}

abbrev pub can_write : {C : Type 0} → List C → ℕ → List ℕ → List ℕ → ℕ → Bool
can_write cells i spare word needed = nat_lt i (length cells) && (nat_le i (length spare) && nat_le needed (length word))

abbrev pub answered : Bool → List ℕ → Option ℕ
answered done w = cond done (Some (length w)) None

abbrev pub over : {T : Type 0} → List T → List T → List T
over w buffer = w ++ drop (length w) buffer

abbrev pub if_answered : {S T : Type 0} → Result T Fault → S → S → S
if_answered (Ok v) x y = x
if_answered (Err f) x y = y

abbrev pub written : Bool → List ℕ → List ℕ → List ℕ
written done w buffer = cond done (over w buffer) buffer
