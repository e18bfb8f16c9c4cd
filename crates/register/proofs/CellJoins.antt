-- The joins of some cells, and the pairs that words lead to.
use Rattle.std.proofs.Common.{◌≡◌, ℕ, suc, ◌<◌, Bool, List, [], ◌∷◌, ◌++◌, length, fold, get_or, refl, arith}
use Rattle.std.proofs.lemmas.List.Sums.{fold-append}
use Rattle.automaton.specs.Automata.{Automaton}
use Rattle.automaton.specs.Words.{walk}
use Rattle.explore.specs.declared.pair_cell.PairCell.{PairCell}
use Rattle.register.specs.Relations.{EquivalenceOn, Joins, join}
use Rattle.register.specs.Pairs.{joins}
use Rattle.register.proofs.Joins.{join_equivalence, join_holds, join_least}

-- `CellsBelow` by recursion, cell after cell, as joins go through them
abbrev pub CellsIn : ℕ → List PairCell → Type 0
CellsIn n [] = Unit {0}
CellsIn n (c ∷ cells) = (c.first < n) × (c.second < n) × CellsIn n cells

abbrev pub PairsIn : (ℕ → ℕ → Type 0) → List PairCell → Type 0
PairsIn E [] = Unit {0}
PairsIn E (c ∷ cells) = E c.first c.second × PairsIn E cells

abbrev pub cell_at : List PairCell → ℕ → PairCell
cell_at cells j = get_or cells j (record { first = 0; second = 0; origin = 0; letter = 0 })

pub cells_in : (n : ℕ) (cells : List PairCell) → ((j : ℕ) → j < length cells → ((cell_at cells j).first < n) × ((cell_at cells j).second < n)) → CellsIn n cells
cells_in n [] i = tt
cells_in n (c ∷ cells) i = let h = i 0 (omega arith) in (h.0, h.1, cells_in n cells (λ j l. i (suc j) (omega arith)))

pub pairs_in : (E : ℕ → ℕ → Type 0) (cells : List PairCell) → ((j : ℕ) → j < length cells → E (cell_at cells j).first (cell_at cells j).second) → PairsIn E cells
pairs_in E [] i = tt
pairs_in E (c ∷ cells) i = (i 0 (omega arith), pairs_in E cells (λ j l. i (suc j) (omega arith)))

pub joins_end : (J : ℕ → ℕ → Bool) (cells : List PairCell) (c : PairCell) → joins J (cells ++ (c ∷ [])) ≡ join (joins J cells) c.first c.second
joins_end J cells c = fold-append (λ L d. join L d.first d.second) J cells (c ∷ [])

module _ (n : ℕ) where
  pub joins_equivalence : (J : ℕ → ℕ → Bool) → EquivalenceOn n (Joins J) → (cells : List PairCell) → CellsIn n cells → EquivalenceOn n (Joins (joins J cells))
  joins_equivalence J e [] i = e
  joins_equivalence J e (c ∷ cells) i = joins_equivalence (join J c.first c.second) (join_equivalence n J e c.first c.second i.0 i.1) cells i.2

  pub joins_hold : (J : ℕ → ℕ → Bool) (cells : List PairCell) (u v : ℕ) → Joins J u v → Joins (joins J cells) u v
  joins_hold J [] u v h = h
  joins_hold J (c ∷ cells) u v h = joins_hold (join J c.first c.second) cells u v (join_holds J c.first c.second u v h)

  pub joins_least : (E : ℕ → ℕ → Type 0) → EquivalenceOn n E → (J : ℕ → ℕ → Bool) → ((u v : ℕ) → u < n → v < n → Joins J u v → E u v) →
      (cells : List PairCell) → CellsIn n cells → PairsIn E cells → (u v : ℕ) → u < n → v < n → Joins (joins J cells) u v → E u v
  joins_least E e J h [] i p = h
  joins_least E e J h (c ∷ cells) i p = joins_least E e (join J c.first c.second) (join_least n J E e h c.first c.second i.0 i.1 p.0) cells i.2 p.1

-- Walks from two states go side by side.
pub walk_pair : (m : Automaton) (w : List ℕ) (x y : ℕ) → fold (λ (z : ℕ × ℕ) a. (m.next z.0 a, m.next z.1 a)) (x, y) w ≡ (walk m x w, walk m y w)
walk_pair m [] x y = refl
walk_pair m (a ∷ w) x y = walk_pair m w (m.next x a) (m.next y a)
