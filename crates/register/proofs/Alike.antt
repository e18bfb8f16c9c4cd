-- Tests that agree on the states give the same search.
use Rattle.std.proofs.Common.{◌≡◌, ℕ, zero, suc, ◌<◌, Bool, List, [], ◌∷◌, take, fold, sym, subst, ◌∙◌}
use Rattle.automaton.specs.Automata.{Automaton, Lawful}
use Rattle.automaton.specs.Words.{Over}
use Rattle.explore.specs.declared.pair_cell.PairCell.{PairCell}
use Rattle.explore.specs.Order.{First}
use Rattle.explore.specs.Search.{Ends, Explored, Searched, Unseen, explore, way}
use Rattle.explore.proofs.Order.{fold_keeps}
use Rattle.register.specs.Pairs.{Standing, joins, pairs}
use Rattle.register.specs.Relations.{Agree, EquivalenceOn, Joins, join}
use Rattle.register.proofs.CellJoins.{CellsIn, cells_in}
use Rattle.register.proofs.Joins.{join_agrees}
use Rattle.register.proofs.Pairs.{pairs_law}
use Rattle.register.proofs.Standing.{agree_law}

-- A word that is the first with a property is the first with an equal one.
pub first_alike : (P Q : List ℕ → Type 0) → ((w : List ℕ) → P w → Q w) → ((w : List ℕ) → Q w → P w) → (w : List ℕ) → First P w → First Q w
first_alike P Q there back w f = (there w f.0, (λ v q. f.1 v (back v q)))

cells_taken : (n : ℕ) (cells : List PairCell) (i : ℕ) → CellsIn n cells → CellsIn n (take i cells)
cells_taken n cells zero h = tt
cells_taken n [] (suc i) h = tt
cells_taken n (c ∷ cells) (suc i) h = (h.0, h.1, cells_taken n cells i h.2)

joins_agree : (n : ℕ) (J L : ℕ → ℕ → Bool) → Agree n J L → (cells : List PairCell) → CellsIn n cells → Agree n (joins J cells) (joins L cells)
joins_agree n J L a [] i = a
joins_agree n J L a (c ∷ cells) i = joins_agree n (join J c.first c.second) (join L c.first c.second) (join_agrees n J L c.first c.second i.0 i.1 a) cells i.2

module _ (m : Automaton) (l : Lawful m) (alike : ℕ → ℕ → Bool) (p q : ℕ) (hp : p < m.count) (hq : q < m.count) where
  abbrev Gives : (ℕ → ℕ → Bool) → Searched PairCell → Type 0
  Gives J r = Explored (pairs m alike J) m.letters m.count (p, q) r

  abbrev New : (ℕ → ℕ → Bool) → List PairCell → List ℕ → Type 0
  New J cells w = Unseen (pairs m alike J) m.letters (p, q) cells w

  abbrev Ending : (ℕ → ℕ → Bool) → List ℕ → Type 0
  Ending J w = Ends (pairs m alike J) m.letters (p, q) w

  abbrev In : ℕ × ℕ → Type 0
  In x = (x.0 < m.count) × (x.1 < m.count)

  led : (J : ℕ → ℕ → Bool) (w : List ℕ) → Over m.letters w → In (fold (pairs m alike J).step (p, q) w)
  led J w o = fold_keeps (pairs m alike J).step In m.letters (λ x a h i. (l.stays x.0 a i.0 h, l.stays x.1 a i.1 h)) w o (p, q) (hp, hq)

  new_alike : (J L : ℕ → ℕ → Bool) → Agree m.count J L → (cells : List PairCell) → CellsIn m.count cells → (w : List ℕ) → New J cells w → New L cells w
  new_alike J L a cells i w u =
      let h = led J w u.over in
      record { over = u.over; unseen = sym (joins_agree m.count J L a cells i _ _ h.0 h.1) ∙ u.unseen }

  ending_alike : (J L : ℕ → ℕ → Bool) (w : List ℕ) → Ending J w → Ending L w
  ending_alike J L w e = record { over = e.over; ends = e.ends }

  explored_alike : (J L : ℕ → ℕ → Bool) → EquivalenceOn m.count (Joins alike) → Standing m alike J → Agree m.count J L → (r : Searched PairCell) → Gives J r → Gives L r
  explored_alike J L o s a r e = record {
    few = e.few;
    next = λ i h. first_new (take i r.noted) (cells_taken m.count r.noted i noted) (way (pairs m alike J) r.noted i) (e.next i h);
    leads = e.leads;
    goes_on = e.goes_on;
    begins = e.begins;
    back = e.back;
    rising = e.rising;
    all_seen = λ n w u. e.all_seen n w (new_alike L J back r.noted noted w u);
    none = λ n w u. e.none n w (ending_alike L J w u);
    last = λ w h. first_new r.noted noted w (e.last w h);
    first = λ w h. first_alike (Ending J) (Ending L) (ending_alike J L) (ending_alike L J) w (e.first w h);
    short = e.short;
  }
    where
      noted : CellsIn m.count r.noted
      noted = cells_in m.count r.noted (λ j h. subst In (e.leads j h) (led J (way (pairs m alike J) r.noted j) (e.next j h).0.over))

      back : Agree m.count L J
      back u v hu hv = sym (a u v hu hv)

      first_new : (cells : List PairCell) → CellsIn m.count cells → (w : List ℕ) → First (New J cells) w → First (New L cells) w
      first_new cells i w f = first_alike (New J cells) (New L cells) (new_alike J L a cells i) (new_alike L J back cells i) w f

-- Where tests agree, the same cells are noted and the same word is found.
pub found_alike : (m : Automaton) → Lawful m → (alike : ℕ → ℕ → Bool) → EquivalenceOn m.count (Joins alike) → (J L : ℕ → ℕ → Bool) → Standing m alike J → Agree m.count J L →
    (p q : ℕ) → p < m.count → q < m.count → explore (pairs m alike J) m.letters m.count (p, q) ≡ explore (pairs m alike L) m.letters m.count (p, q)
found_alike m l alike o J L s a p q hp hq =
    (pairs_law m l alike o L ((agree_law m l alike J L a).standing s) p q hp hq).decided.only _
    (explored_alike m l alike p q hp hq J L o s a _ (pairs_law m l alike o J s p q hp hq).decided.explored)
