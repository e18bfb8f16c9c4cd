-- Comparing two states: the search over pairs of states, which passes over pairs that are joined, and joins those that it notes. What is told apart are
-- the outcomes of states, kept or dropped say; `alike` tests whether the outcomes of two states are equal.
--   kept_alike   the outcomes are equal: both states are kept, or both are dropped
--   Separates    a word over the letters leads from p and from q to states whose outcomes are not equal
--   joins        J with the pairs of the cells made one, cell after cell
--   CellsBelow   both states of each cell are below n
--   pairs        the kind of this search, over what J joins
--   Standing     what J joins is a right-invariant equivalence, and no word separates states that it joins
--   Led          the walks of a word over the letters lead from p and q to the pair of a cell
--   IsSmallest   the test joins exactly what the smallest right-invariant equivalence joins that has a property
--   Held         J joins exactly what the smallest right-invariant equivalence joins that holds these pairs; no word separates states that it joins; and that
--                equivalence has as many classes as J
--   Found        what comparing p and q gives, over what J joins
--   PairsLaw     over every automaton, for all outcomes, over whatever was joined before, comparing any two states gives that
--   Apart        J is `Held` with no pairs, and has as many classes as there are states
--   ApartLaw     so it is with every test that joins each state to itself alone
--   Agreeing     what stands of J, what is held by it, its joins and the number of its classes are those of L too
--   AgreeLaw     so it is where J and L agree on the states
--   SmallestLaw  the smallest right-invariant equivalence that holds some pairs is one
--   KeptLaw      two states have equal outcomes exactly if both are kept or both are dropped, and to have equal outcomes is an equivalence
use Rattle.std.specs.Prelude.{◌≡◌, ℕ, ◌+◌, ◌<◌, Bool, false, not, ◌↔◌, List, [], ◌∷◌, length, fold, All, None, Some, ◌==◌}
use Rattle.std.specs.Bool.{beq}
use Rattle.automaton.specs.Automata.{Automaton, Lawful}
use Rattle.automaton.specs.Words.{Over, walk}
use Rattle.explore.specs.declared.pair_cell.PairCell.{PairCell}
use Rattle.explore.specs.Order.{First}
use Rattle.explore.specs.Search.{Kind, Decided, Searched, at, explore, way}
use Rattle.register.specs.Noted.{Noted}
use Rattle.register.specs.Relations.{Agree, Below, EquivalenceOn, HasClasses, Holds, Joins, RightInvariant, Smallest, Within, classes, join}

abbrev pub kept_alike : Automaton → ℕ → ℕ → Bool
kept_alike m x y = beq (m.kept x) (m.kept y)

pub record Separates (m : Automaton) (alike : ℕ → ℕ → Bool) (p q : ℕ) (w : List ℕ) : Type 0 where
  pub over : Over m.letters w
  pub apart : alike (walk m p w) (walk m q w) ≡ false

abbrev pub joins : (ℕ → ℕ → Bool) → List PairCell → ℕ → ℕ → Bool
joins J cells = fold (λ L c. join L c.first c.second) J cells

abbrev pub CellsBelow : ℕ → List PairCell → Type 0
CellsBelow n cells = All (λ c. (c.first < n) × (c.second < n)) cells

abbrev pub pairs : Automaton → (ℕ → ℕ → Bool) → (ℕ → ℕ → Bool) → Kind
pairs m alike J = record {
  Cell = PairCell;
  Item = ℕ × ℕ;
  item = λ c. (c.first, c.second);
  origin = λ c. c.origin;
  letter = λ c. c.letter;
  cell = λ x i a. record { first = x.0; second = x.1; origin = i; letter = a };
  none = record { first = 0; second = 0; origin = 0; letter = 0 };
  step = λ x a. (m.next x.0 a, m.next x.1 a);
  seen = λ cells x. joins J cells x.0 x.1;
  ends = λ x. not (alike x.0 x.1);
}

pub record Standing (m : Automaton) (alike : ℕ → ℕ → Bool) (J : ℕ → ℕ → Bool) : Type 0 where
  pub invariant : RightInvariant m (Joins J)
  pub unseparated : (x y : ℕ) → x < m.count → y < m.count → Joins J x y → (w : List ℕ) → Separates m alike x y w → ⊥

pub record Led (m : Automaton) (p q : ℕ) (w : List ℕ) (c : PairCell) : Type 0 where
  pub over : Over m.letters w
  pub first : walk m p w ≡ c.first
  pub second : walk m q w ≡ c.second

abbrev pub IsSmallest : Automaton → ((ℕ → ℕ → Bool) → Type 0) → (ℕ → ℕ → Bool) → Type 0
IsSmallest m Has L = (x y : ℕ) → x < m.count → y < m.count → Joins L x y ↔ Smallest m Has x y

pub record Held (m : Automaton) (alike : ℕ → ℕ → Bool) (held : List (ℕ × ℕ)) (J : ℕ → ℕ → Bool) : Type 0 where
  -- the states of the pairs are there
  pub below : Below m.count held
  -- J is right-invariant, and no word separates states that it joins
  pub standing : Standing m alike J
  -- it joins exactly what the smallest right-invariant equivalence joins that holds the pairs
  pub smallest : IsSmallest m (Holds held) J
  -- which has as many classes as J
  pub counted : HasClasses m.count (Smallest m (Holds held)) (classes J m.count)

pub record Found (m : Automaton) (alike : ℕ → ℕ → Bool) (J : ℕ → ℕ → Bool) (p q : ℕ) (r : Searched PairCell) : Type 0 where
  -- all that every search gives
  pub decided : Decided (pairs m alike J) m.letters m.count (p, q) r
  -- the trail of each cell leads from p and q to its pair
  pub leads : (i : ℕ) → i < length r.noted → Led m p q (way (pairs m alike J) r.noted i) (at (pairs m alike J) r.noted i)
  -- a word that was found is the first that separates p and q
  pub first : (w : List ℕ) → r.word ≡ Some w → First (Separates m alike p q) w
  -- if none was found, no word separates them,
  pub unseparated : r.word ≡ None → (w : List ℕ) → Separates m alike p q w → ⊥
  -- the joins, those of J and of the noted pairs, stand again,
  pub standing : r.word ≡ None → Standing m alike (joins J r.noted)
  -- and are the smallest right-invariant equivalence that has what J joins and joins p and q;
  pub smallest : r.word ≡ None → IsSmallest m (λ E. Within m.count J E × Joins E p q) (joins J r.noted)
  -- if J is `Held` with some pairs, they are `Held` with (p, q) and these pairs
  pub one_more : r.word ≡ None → (held : List (ℕ × ℕ)) → Held m alike held J → Held m alike ((p, q) ∷ held) (joins J r.noted)
  -- each noted pair has made one class fewer
  pub counted : classes (joins J r.noted) m.count + length r.noted ≡ classes J m.count
  -- words alone tell which pairs are noted, in order: those that the new words lead to, over what J joins
  pub noted : Noted m (Joins J) p q r.noted r.word

abbrev pub PairsLaw : Type 0
PairsLaw = (m : Automaton) → Lawful m → (alike : ℕ → ℕ → Bool) → EquivalenceOn m.count (Joins alike) → (J : ℕ → ℕ → Bool) → Standing m alike J →
    (p q : ℕ) → p < m.count → q < m.count → Found m alike J p q (explore (pairs m alike J) m.letters m.count (p, q))

pub record Apart (m : Automaton) (alike : ℕ → ℕ → Bool) (J : ℕ → ℕ → Bool) : Type 0 where
  pub held : Held m alike [] J
  pub counted : classes J m.count ≡ m.count

abbrev pub ApartLaw : Type 0
ApartLaw = (m : Automaton) → Lawful m → (alike : ℕ → ℕ → Bool) → EquivalenceOn m.count (Joins alike) → (J : ℕ → ℕ → Bool) → Agree m.count J (λ x y. x == y) → Apart m alike J

pub record Agreeing (m : Automaton) (alike : ℕ → ℕ → Bool) (J L : ℕ → ℕ → Bool) : Type 0 where
  pub standing : Standing m alike J → Standing m alike L
  pub held : (some : List (ℕ × ℕ)) → Held m alike some J → Held m alike some L
  pub joined : (x y : ℕ) → x < m.count → y < m.count → Agree m.count (join J x y) (join L x y)
  pub counted : classes J m.count ≡ classes L m.count

abbrev pub AgreeLaw : Type 0
AgreeLaw = (m : Automaton) → Lawful m → (alike : ℕ → ℕ → Bool) (J L : ℕ → ℕ → Bool) → Agree m.count J L → Agreeing m alike J L

pub record KeptLaw : Type 0 where
  pub says : (m : Automaton) (x y : ℕ) → Joins (kept_alike m) x y ↔ (m.kept x ≡ m.kept y)
  pub equivalence : (m : Automaton) → EquivalenceOn m.count (Joins (kept_alike m))

abbrev pub SmallestLaw : Type 0
SmallestLaw = (m : Automaton) (held : List (ℕ × ℕ)) → RightInvariant m (Smallest m (Holds held))
