-- The pairs that comparing two states notes, told by words alone: a word leads from the two states to a pair of states, and is noted where this pair is new.
--   Known     the pair that w leads to from p and q is known before w: every equivalence on the states that has what R relates, and joins the pairs that the
--             words before w lead to, joins it
--   New       a word over the letters whose pair is not known before it
--   trail_at  the trail of cell i
--   Noted     the trails of the cells are, in order, exactly the new words; or if a word was found, exactly the new words before it, and it is new itself
use Rattle.std.specs.Prelude.{◌≡◌, ℕ, ◌<◌, Bool, List, length, Option, Some}
use Rattle.automaton.specs.Automata.{Automaton}
use Rattle.automaton.specs.Words.{Over, walk}
use Rattle.explore.specs.declared.pair_cell.PairCell.{PairCell}
use Rattle.explore.specs.Order.{Before}
use Rattle.explore.specs.Trails.{trail_of}
use Rattle.register.specs.Relations.{EquivalenceOn, Joins}

abbrev pub Known : Automaton → (ℕ → ℕ → Type 0) → ℕ → ℕ → List ℕ → Type 0
Known m R p q w = (E : ℕ → ℕ → Bool) → EquivalenceOn m.count (Joins E) → ((x y : ℕ) → x < m.count → y < m.count → R x y → Joins E x y) →
    ((v : List ℕ) → Over m.letters v → Before v w → Joins E (walk m p v) (walk m q v)) → Joins E (walk m p w) (walk m q w)

pub record New (m : Automaton) (R : ℕ → ℕ → Type 0) (p q : ℕ) (w : List ℕ) : Type 0 where
  pub over : Over m.letters w
  pub unknown : Known m R p q w → ⊥

abbrev pub trail_at : List PairCell → ℕ → List ℕ
trail_at cells i = trail_of (λ (c : PairCell). c.origin) (λ (c : PairCell). c.letter) cells i

pub record Noted (m : Automaton) (R : ℕ → ℕ → Type 0) (p q : ℕ) (cells : List PairCell) (word : Option (List ℕ)) : Type 0 where
  -- the trail of each cell is new
  pub only : (i : ℕ) → i < length cells → New m R p q (trail_at cells i)
  -- every new word that comes before the word that was found, if one was, is the trail of a cell
  pub all : (w : List ℕ) → New m R p q w → ((v : List ℕ) → word ≡ Some v → Before w v) → (i : ℕ) × (i < length cells) × (trail_at cells i ≡ w)
  -- the trails rise
  pub rising : (i j : ℕ) → i < j → j < length cells → Before (trail_at cells i) (trail_at cells j)
  -- a word that was found is new,
  pub found : (v : List ℕ) → word ≡ Some v → New m R p q v
  -- and comes after every trail
  pub last : (v : List ℕ) → word ≡ Some v → (i : ℕ) → i < length cells → Before (trail_at cells i) v
