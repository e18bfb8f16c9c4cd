-- Reading a catalogue to its end.
--   values    the lots in a list, by their numbers and the bytes of their marks
--   EndsAt    the refusal of what is left of a text, after so many bytes, whose byte i is the first that cannot go on
--   Ended     how the reading ends before what is left of a text, after so many bytes: with no refusal where nothing is left, and
--             else with a refusal at the first byte that cannot go on
--   Reading   a text is the lines of these lots, and then what ends the reading so
--   Listed    the promise of reading to the end. `read`: it is a reading of the text. `only`: the text has no other one. `long`: a text
--             that is too long has no lots and is refused. `whole`: of a well-formed text come exactly its lots, in order, and no
--             refusal.
--   Reads     calls of the reader from a place hand out these lots, one after another, and then the end or a refusal
--   Runs      the law of the reader: whoever calls it to the end is handed what reading to the end promises. It speaks of the text
--             alone, and of no answer of the call that promises it
use Rattle.std.specs.Prelude.{◌≡◌, ℕ, ◌+◌, ◌<◌, ◌≤◌, List, [], ◌∷◌, ◌++◌, map, length, Some, None, Ok, Err, Option}
use Rattle.automaton.specs.declared.fault.Fault.{Fault}
use Rattle.catalogue.specs.declared.entry.Entry.TheVariants.{Lot as LotCase, End}
use Rattle.catalogue.specs.declared.entry.Lot.{Lot}
use Rattle.catalogue.specs.Entries.{Entered, bad_line, longest, told}
use Rattle.catalogue.specs.Lines.{Lines, LotValue, Stuck}

abbrev pub values : List Lot → List LotValue
values lots = map told lots

pub record EndsAt (left : List ℕ) (done : ℕ) (f : Fault) (i : ℕ) : Type 0 where
  pub some : 0 < length left
  pub stuck : Stuck left i
  pub fault : f ≡ bad_line (done + i)

abbrev pub Ended : List ℕ → ℕ → Option Fault → Type 0
Ended left done None = left ≡ []
Ended left done (Some f) = (i : ℕ) × EndsAt left done f i

abbrev pub Reading : List ℕ → List LotValue → Option Fault → Type 0
Reading text lots fault = (done left : List ℕ) × (text ≡ done ++ left) × Lines done lots × Ended left (length done) fault

pub record Listed (text : List ℕ) (lots : List LotValue) (fault : Option Fault) : Type 0 where
  pub read : length text ≤ longest → Reading text lots fault
  pub only : length text ≤ longest → (others : List LotValue) (end : Option Fault) → Reading text others end → (lots ≡ others) × (fault ≡ end)
  pub long : longest < length text → (lots ≡ []) × (fault ≡ Some (bad_line longest))
  pub whole : length text ≤ longest → (all : List LotValue) → Lines text all → (lots ≡ all) × (fault ≡ None)

abbrev pub Reads : List ℕ → ℕ → List LotValue → Option Fault → Type 0
Reads text at [] None = (next : ℕ) × Entered text at (Ok End) next
Reads text at [] (Some f) = (next : ℕ) × Entered text at (Err f) next
Reads text at (lot ∷ lots) fault = (l : Lot) × (next : ℕ) × (told l ≡ lot) × Entered text at (Ok (LotCase l)) next × Reads text next lots fault

abbrev pub Runs : List ℕ → Type 0
Runs text = (lots : List LotValue) (fault : Option Fault) → Reads text 0 lots fault → Listed text lots fault
