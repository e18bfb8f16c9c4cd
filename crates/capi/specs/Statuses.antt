-- Refusals as numbers, for C.
--   status_of         the status of a kind of refusal: its number in the table, and 255 for the kind that has no number there, want of memory
--   refusal_numbers   the numbers of a refusal: the place and the letter that it names, its status, its layer and its side
--   no_refusal        what stands where a call was answered: zeros
--   refusal_of        the numbers of an answer's refusal, or that there is none
use Rattle.std.specs.Prelude.{ℕ, cond, ◌==◌, Result, Ok, Err}
use Rattle.automaton.specs.declared.fault.Fault.{Fault}
use Rattle.automaton.specs.declared.kind.FaultKind.{FaultKind}
use Rattle.automaton.specs.Faults.{layer_number, row_of, side_number}
use Rattle.capi.specs.declared.refusal.Refusal.{Refusal}

abbrev pub status_of : FaultKind → ℕ
status_of kind = cond ((row_of kind).number == 0) 255 (row_of kind).number

abbrev pub refusal_numbers : Fault → Refusal
refusal_numbers f = record { place = (row_of f.kind).place; letter = (row_of f.kind).letter; status = status_of f.kind; layer = layer_number f.layer; side = side_number f.side }

abbrev pub no_refusal : Refusal
no_refusal = record { place = 0; letter = 0; status = 0; layer = 0; side = 0 }

abbrev pub refusal_of : {T : Type 0} → Result T Fault → Refusal
refusal_of (Ok x) = no_refusal
refusal_of (Err f) = refusal_numbers f
