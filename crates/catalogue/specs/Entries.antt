-- What the reader of a catalogue answers.
--   longest       the most bytes that a catalogue has
--   bad_line      the refusal of a line, at a place of the text
--   told          a lot by its number and the bytes of its mark
--   EntryValue    what an entry says: the number of its case, and its lot, if it is one
--   entry_value   each case of an entry: 1 is a lot, which carries its number and its mark's bytes, and 0 is the end, which carries
--                 nothing
--   LotAt         the line at a place of a text is that of this lot: its mark is the part of the text after the opening, the digits
--                 and a space, and the next line begins where it ends
--   Given         what is handed out at a place is a lot that stands there, and the reader then stands behind it; or the end, at the text's length alone
--   StuckAt       the refusal of the line at a place, whose byte i is the first that cannot go on
--   Refused       the refusal at a place: of a text that is too long, or of the line there
--   Entered       what one call of the reader answers from a place of a text, and where it stands then: the lot of the line that
--                 begins there; the end, at the text's length alone; or a refusal, at 60,000 if the text is too long, and else at the
--                 first byte that cannot go on. Only a lot moves the reader.
use Rattle.std.specs.Prelude.{◌≡◌, ℕ, ◌+◌, ◌-◌, ◌<◌, ◌≤◌, ◌⊎◌, List, length, take, drop, Some, None, Ok, Err, Option, Result}
use Rattle.automaton.specs.declared.fault.Fault.{Fault}
use Rattle.automaton.specs.declared.kind.FaultKind.TheVariants.{BadLine}
use Rattle.automaton.specs.declared.layer.Layer.TheVariants.{Catalogue}
use Rattle.automaton.specs.Faults.{refusal}
use Rattle.catalogue.specs.declared.entry.Entry.{Entry}
use Rattle.catalogue.specs.declared.entry.Entry.TheVariants.{Lot as LotCase, End}
use Rattle.catalogue.specs.declared.entry.Lot.{Lot}
use Rattle.catalogue.specs.Lines.{LineOf, LotValue, Stuck}

abbrev pub longest : ℕ
longest = 60000

abbrev pub bad_line : ℕ → Fault
bad_line place = refusal (BadLine place) Catalogue

abbrev pub told : Lot → LotValue
told lot = record { number = lot.number; mark = lot.mark.now }

pub record EntryValue : Type 0 where
  pub number : ℕ
  pub lot : Option LotValue

abbrev pub entry_value : Entry → EntryValue
entry_value (LotCase lot) = record { number = 1; lot = Some (told lot) }
entry_value End = record { number = 0; lot = None }

pub record LotAt (text : List ℕ) (at : ℕ) (lot : LotValue) (next : ℕ) (digits : List ℕ) : Type 0 where
  pub line : LineOf lot (take (next - at) (drop at text)) digits
  pub mark : lot.mark ≡ take (length lot.mark) (drop (at + 5 + length digits) text)
  pub ends : next ≡ at + 6 + length digits + length lot.mark
  pub within : next ≤ length text

abbrev pub Given : List ℕ → ℕ → Option LotValue → ℕ → Type 0
Given text at (Some lot) next = (digits : List ℕ) × LotAt text at lot next digits
Given text at None next = (at ≡ length text) × (next ≡ at)

pub record StuckAt (text : List ℕ) (at : ℕ) (f : Fault) (i : ℕ) : Type 0 where
  pub few : length text ≤ longest
  pub unended : at < length text
  pub stuck : Stuck (drop at text) i
  pub fault : f ≡ bad_line (at + i)

abbrev pub Refused : List ℕ → ℕ → Fault → Type 0
Refused text at f = ((longest < length text) × (f ≡ bad_line longest)) ⊎ ((i : ℕ) × StuckAt text at f i)

abbrev pub Entered : List ℕ → ℕ → Result Entry Fault → ℕ → Type 0
Entered text at (Ok e) next = (length text ≤ longest) × Given text at (entry_value e).lot next
Entered text at (Err f) next = Refused text at f × (next ≡ at)
