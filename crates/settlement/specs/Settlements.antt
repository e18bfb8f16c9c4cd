-- What settling two table sheets promises: whether the automata on them accept the same words.
--   IsSame            the settlement is "same"
--   SettlementValue   what a settlement says: the number of its case, the joins, and of a word that tells the two apart its length and the side that accepts it
--   settlement_value  each case of a settlement: 0 is "same", which carries the joins, and 1 is "differ", which carries the side that accepts the word, the word's length, and
--                     the joins tried; `joins_of`, `length_of` and `keeper_of` read them
--   word_of           the word of a settlement, at the beginning of the buffer
--   Only              the first automaton accepts the word, and the second does not
--   TellsApart        exactly one of the two accepts the word
--   KeptBy            the one on this side accepts the word, and the other does not
--   search_of         what the search over pairs of states gives from the two starts, over the disjoint union of two automata, where no two states are joined
--   checked           the answer to two sheets: the first refusal that applies, of the first sheet, of the second, or of two rules that do not fit
--   room_checked      the answer to two sheets and a buffer of so many bytes: the same, and then that of a buffer with fewer bytes than both rules have states together
--   Settled           a settlement of two sheets is right, with the word that is handed over; `drawn` is the automaton that is drawn on a sheet, as a textbook draws it
--   Unsettled         a refusal of two sheets is the first that applies, but for want of memory
use Rattle.std.specs.Prelude.{◌≡◌, ℕ, ◌+◌, ◌≤◌, ◌⊎◌, ◌↔◌, List, length, Option, Some, None, Err, Result, ◌==◌, option_map}
use Rattle.automaton.specs.declared.fault.Fault.{Fault}
use Rattle.automaton.specs.declared.layer.Layer.TheVariants.{Register}
use Rattle.automaton.specs.declared.side.Side.{Side}
use Rattle.automaton.specs.declared.side.Side.TheVariants.{Neither, First, Second, Pair}
use Rattle.automaton.specs.Automata.{Automaton}
use Rattle.automaton.specs.Diagrams.{Accepts, Diagram}
use Rattle.automaton.specs.Faults.{and_then}
use Rattle.combine.specs.Combined.{disjoint_union, fit_answer, sum}
use Rattle.combine.specs.Laws.{FitSum}
use Rattle.explore.specs.declared.pair_cell.PairCell.{PairCell}
use Rattle.explore.specs.Order.{First as IsFirst}
use Rattle.explore.specs.Room.{bytes_checked}
use Rattle.explore.specs.Search.{Searched}
use Rattle.register.specs.Calls.{found}
use Rattle.search.specs.FirstKept.{handed}
use Rattle.search.specs.Relations.{OnlyIn}
use Rattle.settlement.specs.declared.settlement.Settlement.{Settlement}
use Rattle.settlement.specs.declared.settlement.Settlement.TheVariants.{Same, Differ}
use Rattle.settlement.specs.Openings.{NoMemory, both_opened}
use Rattle.sheet.specs.Layout.{WellFormed, drawn, tabled}

abbrev pub IsSame : Settlement → Type 0
IsSame (Same joins) = Unit {0}
IsSame (Differ side long tried) = ⊥

pub record SettlementValue : Type 0 where
  pub number : ℕ
  pub joins : ℕ
  pub length : Option ℕ
  pub keeper : Option Side

abbrev pub settlement_value : Settlement → SettlementValue
settlement_value (Same joins) = record { number = 0; joins = joins; length = None; keeper = None }
settlement_value (Differ side long tried) = record { number = 1; joins = tried; length = Some long; keeper = Some side }

abbrev pub joins_of : Settlement → ℕ
joins_of s = (settlement_value s).joins

abbrev pub length_of : Settlement → Option ℕ
length_of s = (settlement_value s).length

abbrev pub keeper_of : Settlement → Option Side
keeper_of s = (settlement_value s).keeper

abbrev pub word_of : Settlement → List ℕ → Option (List ℕ)
word_of s buffer = handed (length_of s) buffer

abbrev pub Only : Diagram → Diagram → List ℕ → Type 0
Only a b w = OnlyIn (Accepts a) (Accepts b) w

abbrev pub TellsApart : Diagram → Diagram → List ℕ → Type 0
TellsApart a b w = Only a b w ⊎ Only b a w

abbrev pub KeptBy : Diagram → Diagram → Side → List ℕ → Type 0
KeptBy a b First w = Only a b w
KeptBy a b Second w = Only b a w
KeptBy a b Neither w = ⊥
KeptBy a b Pair w = ⊥

abbrev pub search_of : Automaton → Automaton → Searched PairCell
search_of m n = found (disjoint_union m n) (λ x y. x == y) m.start (m.count + n.start)

abbrev pub checked : List ℕ → List ℕ → Result (Unit {0}) Fault
checked first second = both_opened first second (fit_answer (tabled first).letters (tabled second).letters (sum (tabled first) (tabled second)) tt)

abbrev pub room_checked : List ℕ → List ℕ → ℕ → Result (Unit {0}) Fault
room_checked first second bytes = and_then (checked first second) (λ _. bytes_checked Register (sum (tabled first) (tabled second)) bytes)

pub record Settled (first second : List ℕ) (s : Settlement) (buffer : List ℕ) : Type 0 where
  -- both sheets are well-formed, and their rules fit
  pub first_formed : WellFormed first
  pub second_formed : WellFormed second
  pub fit : FitSum (tabled first) (tabled second)
  -- "same" exactly when both automata accept the same words
  pub same : IsSame s ↔ ((w : List ℕ) → Accepts (drawn first) w ↔ Accepts (drawn second) w)
  -- otherwise the word is the first that tells them apart,
  pub first_word : (w : List ℕ) → word_of s buffer ≡ Some w → IsFirst (TellsApart (drawn first) (drawn second)) w
  -- every word that does has at least as many letters,
  pub shortest : (w : List ℕ) → word_of s buffer ≡ Some w → (u : List ℕ) → TellsApart (drawn first) (drawn second) u → length w ≤ length u
  -- and the automaton on the side that is named accepts it, and the other does not
  pub kept : (side : Side) (w : List ℕ) → keeper_of s ≡ Some side → word_of s buffer ≡ Some w → KeptBy (drawn first) (drawn second) side w
  -- the word, its length and the joins are those of the defined search
  pub word : word_of s buffer ≡ (search_of (tabled first) (tabled second)).word
  pub long : length_of s ≡ option_map length (search_of (tabled first) (tabled second)).word
  pub joins : joins_of s ≡ length (search_of (tabled first) (tabled second)).noted

abbrev pub Unsettled : List ℕ → List ℕ → ℕ → Fault → Type 0
Unsettled first second bytes f = (room_checked first second bytes ≡ Err f) ⊎ NoMemory first second f
