-- Comparing two states joins what has to be joined, and finds the first word that separates them.
use Rattle.std.proofs.Common.{◌≡◌, ℕ, suc, ◌<◌, ◌≤◌, Bool, true, false, not, ◌↔◌, List, [], ◌∷◌, length, None, refl, sym, subst, ap, ◌∙◌, arith}
use Rattle.std.proofs.lemmas.Bool.{both_ways, not-false, not-true, true_from_ne_false}
use Rattle.automaton.specs.Automata.{Automaton, Lawful}
use Rattle.automaton.specs.Words.{Over, walk}
use Rattle.explore.specs.declared.pair_cell.PairCell.{PairCell}
use Rattle.explore.specs.Search.{Kind, Decided, Ends, Explored, Searched, at, explore, way}
use Rattle.explore.proofs.Invariant.{AllIn, LawfulKind}
use Rattle.explore.proofs.Order.{fold_keeps}
use Rattle.explore.proofs.Decided.{decided}
use Rattle.explore.proofs.Search.{Come, come}
use Rattle.register.specs.Relations.{Below, EquivalenceOn, Holds, Joins, RightInvariant, Smallest, Within, classes}
use Rattle.register.specs.Pairs.{Found, Held, PairsLaw, Separates, Standing, joins, pairs}
use Rattle.register.proofs.CellJoins.{CellsIn, cells_in, joins_end, joins_equivalence, joins_hold, joins_least, pairs_in, walk_pair}
use Rattle.register.proofs.Counting.{classes_few, classes_join}
use Rattle.register.proofs.Joins.{join_holds, join_joins}
use Rattle.register.proofs.NewWords.{noted}
use Rattle.register.proofs.Standing.{holding}

module _ (m : Automaton) (lawful : Lawful m)
    (alike : ℕ → ℕ → Bool) (outcomes : EquivalenceOn m.count (Joins alike)) (J : ℕ → ℕ → Bool) (s : Standing m alike J) where
  abbrev S : Kind
  S = pairs m alike J

  abbrev In : ℕ × ℕ → Type 0
  In x = (x.0 < m.count) × (x.1 < m.count)

  abbrev size : List PairCell → ℕ
  size cells = classes (joins J cells) m.count

  equal : EquivalenceOn m.count (Joins J)
  equal = s.invariant.equivalence

  inside : (cells : List PairCell) → AllIn S In cells → CellsIn m.count cells
  inside cells i = cells_in m.count cells i

  outcomes_equal : (x y : ℕ) → x < m.count → y < m.count → Joins J x y → Joins alike x y
  outcomes_equal x y hx hy h = true_from_ne_false _ (λ f. s.unseparated x y hx hy h [] record { over = tt; apart = f })

  -- where no cell's pair has unequal outcomes, no joined pair has
  all_alike : (cells : List PairCell) → AllIn S In cells → ((j : ℕ) → j < length cells → S.ends (S.item (at S cells j)) ≡ false) →
      (x y : ℕ) → x < m.count → y < m.count → Joins (joins J cells) x y → Joins alike x y
  all_alike cells ins h x y hx hy t = joins_least m.count (Joins alike) outcomes J outcomes_equal cells (inside cells ins)
      (pairs_in (Joins alike) cells (λ j l. not-false _ (h j l))) x y hx hy t

  -- where the next pairs of the old cells are joined, so are those of all that the old cells join
  all_step : (old cells : List PairCell) → AllIn S In old → AllIn S In cells →
      ((j a : ℕ) → j < length old → a < m.letters → S.seen cells (S.step (S.item (at S old j)) a) ≡ true) →
      (x y a : ℕ) → x < m.count → y < m.count → a < m.letters → Joins (joins J old) x y → Joins (joins J cells) (m.next x a) (m.next y a)
  all_step old cells o ins h x y a hx hy ha t = joins_least m.count E after J first old (inside old o) (pairs_in E old (λ j l. h j a l ha)) x y hx hy t
    where
      E : ℕ → ℕ → Type 0
      E u v = Joins (joins J cells) (m.next u a) (m.next v a)

      e : EquivalenceOn m.count (Joins (joins J cells))
      e = joins_equivalence m.count J equal cells (inside cells ins)

      after : EquivalenceOn m.count E
      after = record {
        itself = λ u hu. e.itself (m.next u a) (lawful.stays u a hu ha);
        turned = λ u v hu hv t. e.turned (m.next u a) (m.next v a) (lawful.stays u a hu ha) (lawful.stays v a hv ha) t;
        chained = λ u v w hu hv hw t r. e.chained (m.next u a) (m.next v a) (m.next w a) (lawful.stays u a hu ha) (lawful.stays v a hv ha) (lawful.stays w a hw ha) t r;
      }

      first : (u v : ℕ) → u < m.count → v < m.count → Joins J u v → E u v
      first u v hu hv j = joins_hold m.count J cells (m.next u a) (m.next v a) (s.invariant.steps u v a hu hv ha j)

  pub pairs_lawful : LawfulKind S m.letters In size
  pairs_lawful = record {
    item_noted = λ x i a. refl;
    origin_noted = λ x i a. refl;
    letter_noted = λ x i a. refl;
    whole = λ c. refl;
    in_step = λ x a h i. (lawful.stays x.0 a i.0 h, lawful.stays x.1 a i.1 h);
    seen_new = λ cells c ins i. subst (λ (L : ℕ → ℕ → Bool). Joins L c.first c.second) (sym (joins_end J cells c))
        (join_joins m.count (joins J cells) (joins_equivalence m.count J equal cells (inside cells ins)) c.first c.second i.0 i.1);
    seen_more = λ cells c x t. subst (λ (L : ℕ → ℕ → Bool). Joins L x.0 x.1) (sym (joins_end J cells c)) (join_holds (joins J cells) c.first c.second x.0 x.1 t);
    seen_goes = λ cells ins h x i t. ap not (all_alike cells ins h x.0 x.1 i.0 i.1 t);
    seen_step = λ old cells o ins h x a i ha t. all_step old cells o ins h x.0 x.1 a i.0 i.1 ha t;
    room = λ cells x i a ins h f. subst (λ (L : ℕ → ℕ → Bool). suc (classes L m.count) ≡ classes (joins J cells) m.count) (sym (joins_end J cells (S.cell x i a)))
        (classes_join m.count (joins J cells) (joins_equivalence m.count J equal cells (inside cells ins)) x.0 x.1 h.0 h.1 f);
  }

  module _ (p q : ℕ) (hp : p < m.count) (hq : q < m.count) where
    separates : (w : List ℕ) → Ends S m.letters (p, q) w → Separates m alike p q w
    separates w e = record { over = e.over; apart = not-true _ (rw (walk_pair m w p q) at e.ends) }

    ends : (w : List ℕ) → Separates m alike p q w → Ends S m.letters (p, q) w
    ends w e = record { over = e.over; ends = rw (walk_pair m w p q, e.apart) refl }

    -- what an ended search has joined
    module _ (r : Searched PairCell) (c : Come S m.letters In size (p, q) r) (n : r.word ≡ None) where
      abbrev L : ℕ → ℕ → Bool
      L = joins J r.noted

      ins : AllIn S In r.noted
      ins j h = (c.good j h).within

      step : (x y a : ℕ) → x < m.count → y < m.count → a < m.letters → Joins L x y → Joins L (m.next x a) (m.next y a)
      step x y a hx hy ha t = all_step r.noted r.noted ins ins (λ j b h k. (c.closed n).taken j b h h k) x y a hx hy ha t

      invariant : RightInvariant m (Joins L)
      invariant = record { equivalence = joins_equivalence m.count J equal r.noted (inside r.noted ins); steps = step }

      word_alike : (w : List ℕ) → Over m.letters w → (x y : ℕ) → x < m.count → y < m.count → Joins L x y → Joins alike (walk m x w) (walk m y w)
      word_alike [] o x y hx hy t = all_alike r.noted ins (λ j h. (c.good j h).goes) x y hx hy t
      word_alike (a ∷ w) o x y hx hy t = word_alike w o.1 (m.next x a) (m.next y a) (lawful.stays x a hx o.0) (lawful.stays y a hy o.0) (step x y a hx hy o.0 t)

      stands : Standing m alike L
      stands = record { invariant = invariant; unseparated = λ x y hx hy t w e. both_ways _ e.apart (word_alike w e.over x y hx hy t) }

      -- every right-invariant equivalence that has J and the first pair has every noted pair
      least : (E : ℕ → ℕ → Bool) → RightInvariant m (Joins E) → Within m.count J E → Joins E p q → (x y : ℕ) → x < m.count → y < m.count → Joins L x y → Joins E x y
      least E e h first x y hx hy t = joins_least m.count (Joins E) e.equivalence J h r.noted (inside r.noted ins) (pairs_in (Joins E) r.noted noted) x y hx hy t
        where
          Joined : ℕ × ℕ → Type 0
          Joined x = In x × Joins E x.0 x.1

          next : (x : ℕ × ℕ) (a : ℕ) → a < m.letters → Joined x → Joined (S.step x a)
          next x a ha i = ((lawful.stays x.0 a i.0.0 ha, lawful.stays x.1 a i.0.1 ha), e.steps x.0 x.1 a i.0.0 i.0.1 ha i.1)

          noted : (j : ℕ) → j < length r.noted → Joins E (at S r.noted j).first (at S r.noted j).second
          noted j l =
              let g = c.good j l in
              (subst Joined g.leads (fold_keeps S.step Joined m.letters next _ g.over (p, q) ((hp, hq), first))).1

      small : (x y : ℕ) → x < m.count → y < m.count → Joins L x y ↔ Smallest m (λ E. Within m.count J E × Joins E p q) x y
      small x y hx hy = ((λ t E e h. least E e h.0 h.1 x y hx hy t), (λ f. f L invariant ((λ u v hu hv t. joins_hold m.count J r.noted u v t), (c.closed n).sound.holds)))

      more : (held : List (ℕ × ℕ)) → Held m alike held J → Held m alike ((p, q) ∷ held) L
      more held o = holding m alike ((p, q) ∷ held) L (hp, hq, o.below) stands
          (λ x y hx hy. (
            (λ t E e h. least E e (λ u v hu hv j. (o.smallest u v hu hv).0 j E e h.1) h.0 x y hx hy t),
            (λ f. f L invariant ((c.closed n).sound.holds, all held o.below (λ E e h. h))),
          ))
        where
          all : (some : List (ℕ × ℕ)) → Below m.count some → ((E : ℕ → ℕ → Bool) → RightInvariant m (Joins E) → Holds held E → Holds some E) → Holds some L
          all [] b h = tt
          all (d ∷ some) b h = (joins_hold m.count J r.noted d.0 d.1 ((o.smallest d.0 d.1 b.0 b.1).1 (λ E e k. (h E e k).0)), all some b.2 (λ E e k. (h E e k).1))

    found_pairs : Found m alike J p q (explore S m.letters m.count (p, q))
    found_pairs = record {
      decided = d;
      leads = λ i h. let e = sym (walk_pair m (way S (explore S m.letters m.count (p, q)).noted i) p q) ∙ x.leads i h in record { over = (x.next i h).0.over; first = ap (λ (y : ℕ × ℕ). y.0) e; second = ap (λ (y : ℕ × ℕ). y.1) e };
      first = λ w e. (separates w (x.first w e).0, (λ v o. (x.first w e).1 v (ends v o)));
      unseparated = λ n w o. x.none n w (ends w o);
      standing = stands (explore S m.letters m.count (p, q)) c;
      smallest = small (explore S m.letters m.count (p, q)) c;
      one_more = more (explore S m.letters m.count (p, q)) c;
      counted = omega (arith, c.room);
      noted = noted m lawful alike J equal p q hp hq m.count (explore S m.letters m.count (p, q)) x;
    }
      where
        few : classes J m.count ≤ m.count
        few = classes_few J m.count

        c : Come S m.letters In size (p, q) (explore S m.letters m.count (p, q))
        c = come S m.letters In size (p, q) pairs_lawful (hp, hq) m.count few

        d : Decided S m.letters m.count (p, q) (explore S m.letters m.count (p, q))
        d = decided S m.letters m.count In size (p, q) pairs_lawful (hp, hq) few

        x : Explored S m.letters m.count (p, q) (explore S m.letters m.count (p, q))
        x = d.explored

pub pairs_law : PairsLaw
pairs_law m l alike o J s p q hp hq = found_pairs m l alike o J s p q hp hq
