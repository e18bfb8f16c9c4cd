-- What opening a table sheet answers.
--   wrong_length    the refusal of a sheet that has more or fewer bytes than its header asks for
--   strayed         the refusal of a next state that is not there, by its state and its letter
--   padding_set     the refusal of a sheet with a bit set after its last row
--   stray_at        the refusal of a state that was found, under its letter
--   stray_fault     the refusal of the lowest state that has a stray next state, under its lowest such letter
--   or_else         the first of two faults
--   size_fault      the fault of a sheet that is too short for a header or of the wrong length
--   fault_of        the first fault of a sheet: too short for a header, then of the wrong length, then a stray next state, then a
--                   bit set after the last row
--   Stray           a next state that is not there, before which every next state is there
--   Strays          a stray next state that an answer names is the first one
--   table_form      the form of table sheets
use Rattle.std.specs.Prelude.{◌≡◌, ℕ, ◌<◌, ◌≤◌, cond, ◌⊎◌, List, length, Some, None, Err, Option, Result, ◌==◌, nat_lt}
use Rattle.std.specs.Option.{unwrap_or}
use Rattle.automaton.specs.declared.fault.Fault.{Fault}
use Rattle.automaton.specs.declared.kind.FaultKind.TheVariants.{WrongLength, TargetOutOfRange, PaddingSet}
use Rattle.automaton.specs.declared.layer.Layer.TheVariants.{Sheet}
use Rattle.automaton.specs.Automata.{Automaton}
use Rattle.automaton.specs.Faults.{refusal}
use Rattle.sheet.specs.Bits.{truncated}
use Rattle.sheet.specs.Forms.{Form}
use Rattle.sheet.specs.Layout.{drawn, letter_count, next_in, padding, sheet_bytes, state_count, stray_letter, stray_state, tabled, WellFormed}

abbrev pub wrong_length : Fault
wrong_length = refusal WrongLength Sheet

abbrev pub strayed : ℕ → ℕ → Fault
strayed p a = refusal (TargetOutOfRange p a) Sheet

abbrev pub padding_set : Fault
padding_set = refusal PaddingSet Sheet

abbrev pub stray_at : Option ℕ → (ℕ → Option ℕ) → Option Fault
stray_at (Some p) letter = Some (strayed p (unwrap_or (letter p) 0))
stray_at None letter = None

abbrev pub stray_fault : List ℕ → Option Fault
stray_fault bs = stray_at (stray_state bs) (stray_letter bs)

abbrev pub or_else : Option Fault → Option Fault → Option Fault
or_else (Some f) rest = Some f
or_else None rest = rest

abbrev pub size_fault : List ℕ → Option Fault
size_fault bs = cond (nat_lt (length bs) 2) (Some truncated) (cond (length bs == sheet_bytes bs) None (Some wrong_length))

abbrev pub fault_of : List ℕ → Option Fault
fault_of bs = or_else (size_fault bs) (or_else (stray_fault bs) (cond (padding bs == 0) None (Some padding_set)))

pub record Stray (bs : List ℕ) (p a : ℕ) : Type 0 where
  pub state : p < state_count bs
  pub letter : a < letter_count bs
  pub out : state_count bs ≤ next_in bs p a
  pub earlier : (q b : ℕ) → q < state_count bs → b < letter_count bs → (q < p) ⊎ ((q ≡ p) × (b < a)) → next_in bs q b < state_count bs

abbrev pub Strays : List ℕ → Automaton → Result (Unit {0}) Fault → Type 0
Strays sheet rule r = (p a : ℕ) → r ≡ Err (strayed p a) → Stray sheet p a

abbrev pub table_form : Form
table_form = record { fault = fault_of; WellFormed = WellFormed; means = tabled; drawn = drawn; Also = Strays }
