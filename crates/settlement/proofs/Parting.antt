-- Where two automata accept the words of two states of a third one, a word separates these states exactly if it tells the two automata apart.
use Rattle.std.proofs.Common.{◌≡◌, ℕ, Bool, true, false, ◌↔◌, List, inl, inr, refl}
use Rattle.std.specs.Bool.{beq}
use Rattle.std.proofs.lemmas.Bool.{both_ways, false_from_ne_true, true_from_ne_false, true≢false}
use Rattle.automaton.specs.Automata.{Automaton}
use Rattle.automaton.specs.Diagrams.{Accepts, Diagram}
use Rattle.automaton.specs.Words.{Over, walk}
use Rattle.register.specs.Pairs.{Separates, kept_alike}
use Rattle.register.specs.Runs.{KeptFrom}
use Rattle.settlement.specs.Settlements.{Only, TellsApart}

-- A state has the words over the letters whose walk from it ends at a kept state.
abbrev pub Has : Automaton → ℕ → List ℕ → Type 0
Has c p w = Over c.letters w × (c.kept (walk c p w) ≡ true)

-- the words that a diagram accepts are those of a state
pub record WordsOf (d : Diagram) (c : Automaton) (p : ℕ) : Type 0 where
  pub are : (w : List ℕ) → Accepts d w ↔ Has c p w

module _ {d e : Diagram} {c : Automaton} {p q : ℕ} (a : WordsOf d c p) (b : WordsOf e c q) where
  pub only : (w : List ℕ) → Over c.letters w → KeptFrom c p q w → Only d e w
  only w o h = record { here = (a.are w).1 (o, h.0); not_there = λ x. both_ways _ h.1 ((b.are w).0 x).1 }

  pub kept_from : (w : List ℕ) → Only d e w → Over c.letters w × KeptFrom c p q w
  kept_from w o =
      let h = (a.are w).0 o.here in
      (h.0, (h.1, false_from_ne_true _ (λ t. o.not_there ((b.are w).1 (h.0, t)))))

module _ {d e : Diagram} {c : Automaton} {p q : ℕ} (a : WordsOf d c p) (b : WordsOf e c q) where
  pub separates_tells : (w : List ℕ) → Separates c (kept_alike c) p q w → TellsApart d e w
  separates_tells w s = go (c.kept (walk c p w)) (c.kept (walk c q w)) refl refl s.apart
    where
      go : (x y : Bool) → c.kept (walk c p w) ≡ x → c.kept (walk c q w) ≡ y → beq (c.kept (walk c p w)) (c.kept (walk c q w)) ≡ false → TellsApart d e w
      go true false i j h = inl (only a b w s.over (i, j))
      go false true i j h = inr (only b a w s.over (j, i))
      go true true i j h = absurd (true≢false (rw (i, j) at h))
      go false false i j h = absurd (true≢false (rw (i, j) at h))

  pub tells_separates : (w : List ℕ) → TellsApart d e w → Separates c (kept_alike c) p q w
  tells_separates w (inl o) =
      let h = kept_from a b w o in
      record { over = h.0; apart = rw (h.1.0, h.1.1) refl }
  tells_separates w (inr o) =
      let h = kept_from b a w o in
      record { over = h.0; apart = rw (h.1.0, h.1.1) refl }

  -- two automata accept the same words exactly if no word separates the two states
  pub none_alike : ((w : List ℕ) → Separates c (kept_alike c) p q w → ⊥) → (w : List ℕ) → Accepts d w ↔ Accepts e w
  none_alike none w = ((λ x. (b.are w).1 (there ((a.are w).0 x))), (λ x. (a.are w).1 (back ((b.are w).0 x))))
    where
      there : Has c p w → Has c q w
      there (o, i) = (o, true_from_ne_false _ (λ j. none w (record { over = o; apart = rw (i, j) refl })))

      back : Has c q w → Has c p w
      back (o, i) = (o, true_from_ne_false _ (λ j. none w (record { over = o; apart = rw (i, j) refl })))

  pub alike_none : ((w : List ℕ) → Accepts d w ↔ Accepts e w) → (w : List ℕ) → Separates c (kept_alike c) p q w → ⊥
  alike_none f w s = go (separates_tells w s)
    where
      go : TellsApart d e w → ⊥
      go (inl o) = o.not_there ((f w).0 o.here)
      go (inr o) = o.not_there ((f w).1 o.here)
