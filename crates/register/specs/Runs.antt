-- Runs of calls on a register, the tally of a run, and the law over runs.
--   Event          a call with its arguments and its answer; of a comparing also the cells and the word's buffer, before and after
--   Tally          pairs of states, and a sum of joins
--   fresh          no pairs, and 0: the tally of a register just opened
--   tallied        the tally after one more call: a comparing that answered "same" adds its two states and its joins, a clearing makes it fresh again, and every
--                  other call leaves it
--   tally          the tally after some calls
--   Step           the call leads from the one register to the other: it stands in the relation that this call promises
--   Run            the calls lead from the one register to the other, each from what the one before it left
--   handed         the word that a verdict hands over, at the beginning of the buffer
--   IsSame         the verdict is "same"
--   JoinedBy       the relation of the tally: what the smallest right-invariant equivalence joins that holds its pairs
--   KeptFrom       one of two states keeps the word, and the other drops it
--   Named          the state that a verdict names is one of the two, and keeps the word, and the other drops it
--   Right          a comparing's answer is right, after calls with this tally
--   OneRight       a comparing that has both states there, enough cells and a buffer long enough is accepted, and its answer is right; of other calls nothing is said
--   EachRight      each comparing of the list that has both states there, enough cells and a buffer long enough is accepted, and its answer is right
--   Law            the law over runs, from a register on
use Rattle.std.specs.Prelude.{◌≡◌, ℕ, ◌+◌, ◌<◌, ◌≤◌, Bool, true, false, ◌⊎◌, ◌↔◌, List, [], ◌∷◌, length, take, Option, Some, None, Ok, Err, Result}
use Rattle.automaton.specs.declared.fault.Fault.{Fault}
use Rattle.automaton.specs.declared.rule.Rule.{Ghosts}
use Rattle.automaton.specs.Automata.{Automaton}
use Rattle.automaton.specs.Words.{walk}
use Rattle.explore.specs.declared.pair_cell.PairCell.{PairCell}
use Rattle.explore.specs.Order.{First}
use Rattle.register.specs.declared.register.Register.{Register}
use Rattle.register.specs.declared.verdict.Verdict.{Verdict}
use Rattle.register.specs.declared.verdict.Verdict.TheVariants.{Same, Differ}
use Rattle.register.specs.Calls.{Asked, Cleared, Compared, Counted, found, rule_of}
use Rattle.register.specs.Noted.{Noted}
use Rattle.register.specs.Pairs.{IsSmallest, Separates, kept_alike}
use Rattle.register.specs.Relations.{HasClasses, Holds, Smallest}
use Rattle.register.specs.Verdicts.{verdict_value}

pub data Event : Type 0 where
  compared : (p q : ℕ) → (cells : List PairCell) → (word : List ℕ) → Result Verdict Fault → (cells_after : List PairCell) → (word_after : List ℕ) → Event
  asked : (p q : ℕ) → Result Bool Fault → Event
  counted : ℕ → Event
  cleared : Event

pub record Tally : Type 0 where
  pub pairs : List (ℕ × ℕ)
  pub sum : ℕ

abbrev pub fresh : Tally
fresh = record { pairs = []; sum = 0 }

abbrev pub tallied : Tally → Event → Tally
tallied t (compared p q cells word (Ok (Same joins)) cells_after word_after) = record { pairs = (p, q) ∷ t.pairs; sum = joins + t.sum }
tallied t (compared p q cells word (Ok (Differ long keeper tried)) cells_after word_after) = t
tallied t (compared p q cells word (Err f) cells_after word_after) = t
tallied t (asked p q r) = t
tallied t (counted n) = t
tallied t cleared = fresh

abbrev pub tally : Tally → List Event → Tally
tally t [] = t
tally t (e ∷ es) = tally (tallied t e) es

abbrev pub handed : Verdict → List ℕ → Option (List ℕ)
handed (Same joins) word = None
handed (Differ long keeper tried) word = Some (take long word)

abbrev pub IsSame : Verdict → Type 0
IsSame (Same joins) = Unit {0}
IsSame (Differ long keeper tried) = ⊥

module _ (m : Automaton) where
  abbrev pub JoinedBy : Tally → ℕ → ℕ → Type 0
  JoinedBy t x y = Smallest m (Holds t.pairs) x y

  abbrev pub KeptFrom : ℕ → ℕ → List ℕ → Type 0
  KeptFrom keeper other w = (m.kept (walk m keeper w) ≡ true) × (m.kept (walk m other w) ≡ false)

  abbrev pub Named : ℕ → ℕ → Verdict → List ℕ → Type 0
  Named p q (Same joins) w = Unit {0}
  Named p q (Differ long keeper tried) w = (long ≡ length w) × (((keeper ≡ p) × KeptFrom p q w) ⊎ ((keeper ≡ q) × KeptFrom q p w))

  pub record Right (t : Tally) (p q : ℕ) (v : Verdict) (cells : List PairCell) (word : List ℕ) : Type 0 where
    -- "same" exactly when no word of any length separates the two states
    pub same : IsSame v ↔ ((w : List ℕ) → Separates m (kept_alike m) p q w → ⊥)
    -- a word that is handed over separates them, and is the first word that does
    pub first : (w : List ℕ) → handed v word ≡ Some w → First (Separates m (kept_alike m) p q) w
    -- every word that separates them has at least as many letters
    pub shortest : (w : List ℕ) → handed v word ≡ Some w → (u : List ℕ) → Separates m (kept_alike m) p q u → length w ≤ length u
    -- the answer says its length, and which state keeps it
    pub named : (w : List ℕ) → handed v word ≡ Some w → Named p q v w
    -- as many cells are noted as it says, and the words of the noted pairs are exactly those whose pair is not known from the relation of the tally and the pairs of
    -- the words before
    pub many : (verdict_value v).joins ≤ length cells
    pub noted : Noted m (JoinedBy t) p q (take (verdict_value v).joins cells) (handed v word)
    -- the noted cells and the word are those of the defined steps, over any test that joins what the relation of the tally joins
    pub defined : (J : ℕ → ℕ → Bool) → IsSmallest m (Holds t.pairs) J → found m J p q ≡ record { noted = take (verdict_value v).joins cells; word = handed v word }

  abbrev pub OneRight : Tally → Event → Type 0
  OneRight t (compared p q cells word r cells_after word_after) =
      p < m.count → q < m.count → m.count ≤ length cells → m.count ≤ length word → (v : Verdict) × (r ≡ Ok v) × Right t p q v cells_after word_after
  OneRight t (asked p q r) = Unit {0}
  OneRight t (counted n) = Unit {0}
  OneRight t cleared = Unit {0}

  abbrev pub EachRight : Tally → List Event → Type 0
  EachRight t [] = Unit {0}
  EachRight t (e ∷ es) = OneRight t e × EachRight (tallied t e) es

module _ {R : Type 0} (g : Ghosts R) where
  abbrev pub Step : Register R g → Event → Register R g → Type 0
  Step before (compared p q cells word r cells_after word_after) after = Compared g before p q cells word r after cells_after word_after
  Step before (asked p q r) after = Asked g before p q r × (after ≡ before)
  Step before (counted n) after = Counted g before n × (after ≡ before)
  Step before cleared after = Cleared g before after

  abbrev pub Run : Register R g → List Event → Register R g → Type 0
  Run before [] after = after ≡ before
  Run before (e ∷ es) after = (between : Register R g) × Step before e between × Run between es after

  -- with m the automaton of the register's rule, and after any calls that lead from the opened register to another one
  pub record Law (opened : Register R g) : Type 0 where
    -- each comparing among them is right
    pub comparings : (events : List Event) (reg : Register R g) → Run opened events reg → EachRight (rule_of g opened) fresh events
    -- the joined-question answers for any two states, yes exactly when the relation of the tally joins them
    pub asking : (events : List Event) (reg : Register R g) → Run opened events reg → (p q : ℕ) (r : Result Bool Fault) → Asked g reg p q r →
        p < (rule_of g opened).count → q < (rule_of g opened).count → (b : Bool) × (r ≡ Ok b) × ((b ≡ true) ↔ JoinedBy (rule_of g opened) (tally fresh events) p q)
    -- counting answers the number of classes of that relation
    pub counting : (events : List Event) (reg : Register R g) → Run opened events reg → (n : ℕ) → Counted g reg n →
        HasClasses (rule_of g opened).count (JoinedBy (rule_of g opened) (tally fresh events)) n
    -- and that number and the joins of the tally are together as many as the states
    pub total : (events : List Event) (reg : Register R g) → Run opened events reg → (n : ℕ) → Counted g reg n → n + (tally fresh events).sum ≡ (rule_of g opened).count
