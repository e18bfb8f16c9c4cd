-- What comparing two states notes: the new words.
use Rattle.std.proofs.Common.{◌≡◌, ℕ, ◌<◌, ◌≤◌, Bool, true, ◌⊎◌, List, length, take, fold, Option, None, Some, refl, sym, subst, ap, ◌∙◌, inl, inr, arith}
use Rattle.std.proofs.Math.Seq.{take-length}
use Rattle.std.proofs.lemmas.Bool.{both_ways, true_from_ne_false}
use Rattle.std.proofs.lemmas.List.{length-take-le}
use Rattle.automaton.specs.Automata.{Automaton, Lawful}
use Rattle.automaton.specs.Words.{Over, walk}
use Rattle.automaton.proofs.Walks.{walk_below}
use Rattle.explore.specs.declared.pair_cell.PairCell.{PairCell}
use Rattle.explore.specs.Order.{Before, First}
use Rattle.explore.specs.Search.{Explored, Kind, Searched, Unseen, at, way}
use Rattle.explore.proofs.Noted.{at_take}
use Rattle.explore.proofs.Order.{before_total}
use Rattle.explore.proofs.Told.{SeenBy, Told, TrailOf, seen_before, told}
use Rattle.register.specs.Noted.{Known, New, Noted}
use Rattle.register.specs.Pairs.{joins, pairs}
use Rattle.register.specs.Relations.{EquivalenceOn, Joins}
use Rattle.register.proofs.CellJoins.{CellsIn, cells_in, joins_equivalence, joins_hold, joins_least, pairs_in, walk_pair}

module _ (m : Automaton) (p q : ℕ) where
  -- what is known stays known where more is related
  known_carry : (R Q : ℕ → ℕ → Type 0) → ((x y : ℕ) → x < m.count → y < m.count → R x y → Q x y) → (w : List ℕ) → Known m R p q w → Known m Q p q w
  known_carry R Q h w k E e has words = k E e (λ x y hx hy t. has x y hx hy (h x y hx hy t)) words

  -- only what R relates of the states matters
  pub noted_carry : (R Q : ℕ → ℕ → Type 0) → ((x y : ℕ) → x < m.count → y < m.count → R x y → Q x y) → ((x y : ℕ) → x < m.count → y < m.count → Q x y → R x y) →
      (cells : List PairCell) (word : Option (List ℕ)) → Noted m R p q cells word → Noted m Q p q cells word
  noted_carry R Q there back cells word n = record {
    only = λ i h. on _ (n.only i h);
    all = λ w o b. n.all w (record { over = o.over; unknown = λ k. o.unknown (known_carry R Q there w k) }) b;
    rising = n.rising;
    found = λ v e. on v (n.found v e);
    last = n.last;
  }
    where
      on : (w : List ℕ) → New m R p q w → New m Q p q w
      on w o = record { over = o.over; unknown = λ k. o.unknown (known_carry Q R back w k) }

module _ (m : Automaton) (l : Lawful m) (alike : ℕ → ℕ → Bool) (J : ℕ → ℕ → Bool) (equal : EquivalenceOn m.count (Joins J))
    (p q : ℕ) (hp : p < m.count) (hq : q < m.count) (n : ℕ) (r : Searched PairCell) (e : Explored (pairs m alike J) m.letters n (p, q) r) where
  abbrev S : Kind
  S = pairs m alike J

  abbrev New′ : List ℕ → Type 0
  New′ w = New m (Joins J) p q w

  -- each cell has the pair that its trail leads to
  has_pair : (i : ℕ) → i < length r.noted → (walk m p (way S r.noted i), walk m q (way S r.noted i)) ≡ S.item (at S r.noted i)
  has_pair i h = sym (walk_pair m (way S r.noted i) p q) ∙ e.leads i h

  over : (i : ℕ) → i < length r.noted → Over m.letters (way S r.noted i)
  over i h = (e.next i h).0.over

  -- the first cells have pairs of states that are there
  front : (j : ℕ) → j ≤ length r.noted → CellsIn m.count (take j r.noted)
  front j h = cells_in m.count (take j r.noted) (λ i b. below i (omega (arith, length-take-le j r.noted h)))
    where
      below : (i : ℕ) → i < j → ((at S (take j r.noted) i).first < m.count) × ((at S (take j r.noted) i).second < m.count)
      below i b = rw (at_take S r.noted j i b) (subst (λ (z : ℕ × ℕ). (z.0 < m.count) × (z.1 < m.count)) (has_pair i (omega arith))
          (walk_below m l (way S r.noted i) p hp (over i (omega arith)), walk_below m l (way S r.noted i) q hq (over i (omega arith))))

  -- what the cells with trails before w have seen is known before w
  seen_known : (w : List ℕ) → Over m.letters w → (j : ℕ) → SeenBy S m.letters (p, q) r.noted w j → Known m (Joins J) p q w
  seen_known w o j s E f has words = joins_least m.count (Joins E) f J has (take j r.noted) (front j s.within) (pairs_in (Joins E) (take j r.noted) (λ i b. pair i (omega (arith, length-take-le j r.noted s.within))))
      (walk m p w) (walk m q w) (walk_below m l w p hp o) (walk_below m l w q hq o) (subst (λ (z : ℕ × ℕ). Joins (joins J (take j r.noted)) z.0 z.1) (walk_pair m w p q) s.seen)
    where
      pair : (i : ℕ) → i < j → Joins E (at S (take j r.noted) i).first (at S (take j r.noted) i).second
      pair i b = rw (at_take S r.noted j i b) (subst (λ (z : ℕ × ℕ). Joins E z.0 z.1) (has_pair i (omega (arith, s.within))) (words (way S r.noted i) (over i (omega (arith, s.within))) (s.earlier i b)))

  -- the first word that leads to a pair that cells have not seen is new
  first_new : (cells : List PairCell) → CellsIn m.count cells → (w : List ℕ) → First (Unseen S m.letters (p, q) cells) w → New′ w
  first_new cells i w f = record { over = f.0.over; unknown = λ k. both_ways _ f.0.unseen (seen k) }
    where
      seen : Known m (Joins J) p q w → S.seen cells (fold S.step (p, q) w) ≡ true
      seen k = rw (walk_pair m w p q) (k (joins J cells) (joins_equivalence m.count J equal cells i) (λ x y hx hy t. joins_hold m.count J cells x y t)
          (λ v o b. subst (λ (z : ℕ × ℕ). Joins (joins J cells) z.0 z.1) (walk_pair m v p q) (seen_before S m.letters (p, q) cells w v f o b)))

  -- a new word that leads to what cells have seen is a trail
  is_trail : (w : List ℕ) → New′ w → (j : ℕ) → j ≤ length r.noted → S.seen (take j r.noted) (fold S.step (p, q) w) ≡ true → TrailOf S r.noted w
  is_trail w o j h t = go (told S m.letters (p, q) n r e w o.over j h t)
    where
      go : Told S m.letters (p, q) r.noted w → TrailOf S r.noted w
      go (inl i) = i
      go (inr s) = absurd (o.unknown (seen_known w o.over s.0 s.1))

  pub noted : Noted m (Joins J) p q r.noted r.word
  noted = record {
    only = λ i h. first_new (take i r.noted) (front i (omega arith)) (way S r.noted i) (e.next i h);
    all = λ w o b. all w o b r.word refl;
    rising = e.rising;
    found = found;
    last = λ v f i h. last v f i h (before_total (way S r.noted i) v);
  }
    where
      whole : CellsIn m.count r.noted
      whole = subst (CellsIn m.count) (take-length r.noted) (front (length r.noted) (omega arith))

      found : (v : List ℕ) → r.word ≡ Some v → New′ v
      found v f = first_new r.noted whole v (e.last v f)

      seen_all : (w : List ℕ) → S.seen r.noted (fold S.step (p, q) w) ≡ true → S.seen (take (length r.noted) r.noted) (fold S.step (p, q) w) ≡ true
      seen_all w t = rw (take-length r.noted) t

      all : (w : List ℕ) → New′ w → ((v : List ℕ) → r.word ≡ Some v → Before w v) → (o : Option (List ℕ)) → r.word ≡ o → TrailOf S r.noted w
      all w o b None f = is_trail w o (length r.noted) (omega arith) (seen_all w (true_from_ne_false _ (λ u. e.all_seen f w record { over = o.over; unseen = u })))
      all w o b (Some v) f = is_trail w o (length r.noted) (omega arith) (seen_all w (seen_before S m.letters (p, q) r.noted v w (e.last v f) o.over (b v f)))

      -- the word that was found is no trail
      no_trail : (v : List ℕ) → r.word ≡ Some v → TrailOf S r.noted v → ⊥
      no_trail v f t = both_ways _ (e.goes_on t.0 t.1) (ap S.ends (sym (e.leads t.0 t.1) ∙ ap (fold S.step (p, q)) t.2) ∙ (e.first v f).0.ends)

      last : (v : List ℕ) → r.word ≡ Some v → (i : ℕ) → i < length r.noted → ((way S r.noted i ≡ v) ⊎ Before (way S r.noted i) v) ⊎ Before v (way S r.noted i) → Before (way S r.noted i) v
      last v f i h (inl (inl t)) = absurd (no_trail v f (i, h, t))
      last v f i h (inl (inr b)) = b
      last v f i h (inr b) = absurd (no_trail v f (is_trail v (found v f) i (omega arith) (seen_before S m.letters (p, q) (take i r.noted) (way S r.noted i) v (e.next i h) (found v f).over b)))
