-- Refusals. For each kind of refusal, each layer and each side: what number it has; and what a kind names.
--   Row            a row of the table of refusals: the number, the place (a state of a table, a position in a word, a byte of a catalogue) and the letter; the last two are
--                  0 where the kind names none. `row` makes one
--   row_of         the row of each kind; want of memory stands outside of the table, with the number 0
--   layer_number   the number of each layer
--   side_number    the number of each side
--   refusal        a refusal with no side
--   sided          a refusal on a side: the kind, with what it names, and the layer stay
--   sided_answer   an answer whose refusal gains a side
--   and_then       a refusal is passed on, and an answer goes on
use Rattle.std.specs.Prelude.{ℕ, Ok, Err, Result}
use Rattle.automaton.specs.declared.fault.Fault.{Fault}
use Rattle.automaton.specs.declared.kind.FaultKind.{FaultKind}
use Rattle.automaton.specs.declared.kind.FaultKind.TheVariants.{OutOfMemory, Truncated, WrongLength, TargetOutOfRange, PaddingSet, LettersDiffer, TooManyStates, NoSuchState, TooFewCells, BufferTooShort, NoSuchLetter, TooManyNfaStates, BadLine}
use Rattle.automaton.specs.declared.layer.Layer.{Layer}
use Rattle.automaton.specs.declared.layer.Layer.TheVariants.{Sheet, Rule, Combined, Register, Search, Catalogue}
use Rattle.automaton.specs.declared.side.Side.{Side}
use Rattle.automaton.specs.declared.side.Side.TheVariants.{Neither, First, Second, Pair}

pub record Row : Type 0 where
  pub number : ℕ
  pub place : ℕ
  pub letter : ℕ

abbrev pub row : ℕ → ℕ → ℕ → Row
row n p a = record { number = n; place = p; letter = a }

abbrev pub row_of : FaultKind → Row
row_of OutOfMemory = row 0 0 0
row_of Truncated = row 1 0 0
row_of WrongLength = row 2 0 0
row_of (TargetOutOfRange p a) = row 3 p a
row_of PaddingSet = row 4 0 0
row_of LettersDiffer = row 5 0 0
row_of TooManyStates = row 6 0 0
row_of NoSuchState = row 7 0 0
row_of TooFewCells = row 8 0 0
row_of BufferTooShort = row 9 0 0
row_of (NoSuchLetter i) = row 10 i 0
row_of TooManyNfaStates = row 11 0 0
row_of (BadLine i) = row 12 i 0

abbrev pub layer_number : Layer → ℕ
layer_number Sheet = 1
layer_number Rule = 2
layer_number Combined = 3
layer_number Register = 4
layer_number Search = 5
layer_number Catalogue = 6

abbrev pub side_number : Side → ℕ
side_number Neither = 0
side_number First = 1
side_number Second = 2
side_number Pair = 3

abbrev pub refusal : FaultKind → Layer → Fault
refusal k l = record { kind = k; layer = l; side = Neither }

abbrev pub sided : Side → Fault → Fault
sided s f = record { kind = f.kind; layer = f.layer; side = s }

abbrev pub sided_answer : {T : Type 0} → Side → Result T Fault → Result T Fault
sided_answer s (Ok x) = Ok x
sided_answer s (Err f) = Err (sided s f)

abbrev pub and_then : {S T : Type 0} → Result S Fault → (S → Result T Fault) → Result T Fault
and_then (Ok x) f = f x
and_then (Err e) f = Err e
