-- The number of classes: every list of representatives has the same length, and a join makes one class of two.
use Rattle.std.proofs.Common.{◌≡◌, ℕ, zero, suc, ◌<◌, ◌≤◌, Bool, true, false, eqb, ◌==◌, ◌⊎◌, List, ◌∷◌, length, map, get_or, All, Any, sym, refl, ap, subst, ◌∙◌, inl, inr, ⊎_elim, arith, le_antisymm}
use Rattle.std.proofs.Math.Nat.{eq-or-lt_of_le}
use Rattle.std.proofs.lemmas.Bool.{and_parts, both_ways, cases_Bool, cases_lt, cond_both, eqb-true, false_from_ne_true, ne_eqb, not-true}
use Rattle.std.specs.List.{list_any, position_or_len}
use Rattle.std.proofs.lemmas.List.{get_or-map, length-map}
use Rattle.std.proofs.lemmas.List.Elements.{All-cons, All-contains, All-from_get_or, All-map, All-nil, All-weaker}
use Rattle.std.proofs.lemmas.List.Folds.{Any-from_list_any}
use Rattle.std.proofs.lemmas.List.Kept.{AllPairs-cons}
use Rattle.std.proofs.lemmas.List.Sums.{fails_before_first, passes_at_first}
use Rattle.std.proofs.lemmas.Map.Keys.{IsDistinct-from_apart}
use Rattle.std.proofs.lemmas.Map.Steps.{length-le_from_distinct_below}
use Rattle.register.specs.Relations.{Agree, EquivalenceOn, HasClasses, Joins, Representatives, classes, join, least, none_below}
use Rattle.register.proofs.Joins.{Route, before, over, back, join_equivalence, join_holds, join_swapped, route, routed}

none_joined : (J : ℕ → ℕ → Bool) (x m : ℕ) → none_below J x m ≡ true → (k : ℕ) → k < m → Joins J k x → ⊥
unfolding none_below
none_joined J x zero t k h j = omega arith
none_joined J x (suc m) t k h j = ⊎_elim
    (λ s. both_ways (J m x) (not-true _ (and_parts _ _ t).0) (ap (λ i. J i x) (sym s) ∙ j))
    (λ s. none_joined J x m (and_parts _ _ t).1 k s j)
    (eq-or-lt_of_le {n = k} {m = m} (omega arith))

some_joined : (J : ℕ → ℕ → Bool) (x m : ℕ) → none_below J x m ≡ false → (k : ℕ) × (k < m) × Joins J k x
unfolding none_below
some_joined J x zero t = absurd (both_ways true t refl)
some_joined J x (suc m) t = ⊎_elim
    (λ j. (m, omega arith, j))
    (λ j. let r = some_joined J x m (rw j at t) in (r.0, omega (arith, r.1), r.2))
    (cases_Bool (J m x))

pub least_more : (J : ℕ → ℕ → Bool) (m : ℕ) → none_below J m m ≡ true → least J (suc m) ≡ m ∷ least J m
unfolding least
least_more J m t = rw t refl

pub least_same : (J : ℕ → ℕ → Bool) (m : ℕ) → none_below J m m ≡ false → least J (suc m) ≡ least J m
unfolding least
least_same J m t = rw t refl

-- Where P holds of every element and Q of some one, this one has both.
picked : (P Q S : ℕ → Type 0) → ((r : ℕ) → P r → Q r → S r) → (l : List ℕ) → All P l → Any Q l → Any S l
picked P Q S f l h c = (c.0, c.1, c.2, c.3, f c.1 (All-contains P l c.1 h (c.0, c.2, c.3)) c.4)

module _ (n : ℕ) (J : ℕ → ℕ → Bool) (e : EquivalenceOn n (Joins J)) where
  -- A list of representatives is no longer than another: each of its states goes to the index of its representative in the other, and no two to one index.
  fewer : (l k : List ℕ) → Representatives n (Joins J) l → Representatives n (Joins J) k → length l ≤ length k
  fewer l k a b = omega (arith, length-map l index, length-le_from_distinct_below (map index l) (length k) (IsDistinct-from_apart eqb (map index l) apart) below)
    where
      index : ℕ → ℕ
      index r = position_or_len (J r) k

      inside : (r : ℕ) → r < n → index r < length k
      inside r h =
          let c = b.every r h in
          ⊎_elim (λ t. t) (λ t. absurd (both_ways (J r c.1) (ap (J r) (sym c.3) ∙ fails_before_first (J r) k c.0 c.1 (omega (arith, c.2))) c.4)) (cases_lt (index r) (length k))

      joined : (r : ℕ) → r < n → Joins J r (get_or k (index r) 0)
      joined r h = passes_at_first (J r) k 0 (inside r h)

      below : (q : ℕ) → list_any (eqb q) (map index l) ≡ true → q < length k
      below q t =
          let c = Any-from_list_any (eqb q) (map index l) t in
          let all = All-map (λ i. i < length k) index l (All-weaker (λ r. r < n) (λ r. index r < length k) inside l a.inside) in
          rw (eqb-true q c.1 c.4) (All-contains (λ i. i < length k) (map index l) c.1 all (c.0, c.2, c.3))

      apart : (i j d : ℕ) → i < j → j < length (map index l) → eqb (get_or (map index l) i d) (get_or (map index l) j d) ≡ false
      apart i j d lt h =
          let hj : j < length l = omega (arith, length-map l index) in
          let hi : i < length l = omega arith in
          let hu = a.inside i 0 hi in
          let hv = a.inside j 0 hj in
          rw (get_or-map index l i 0 d hi, get_or-map index l j 0 d hj) (ne_eqb _ _ (λ same.
          let hr = b.inside (index (get_or l i 0)) 0 (inside _ hu) in
          a.unrelated i j 0 lt hj (e.chained _ _ _ hu hr hv (joined _ hu) (e.turned _ _ hv hr (rw same (joined _ hv))))))

  representatives_same : (l k : List ℕ) → Representatives n (Joins J) l → Representatives n (Joins J) k → length l ≡ length k
  representatives_same l k a b = le_antisymm (fewer l k a b) (fewer k l b a)

  -- The lowest states of the classes are representatives, among the first m too.
  least_representatives : (m : ℕ) → m ≤ n → Representatives m (Joins J) (least J m)
  unfolding least
  least_representatives zero hm = record { inside = All-nil (λ r. r < 0); unrelated = λ i j d lt h. absurd (omega arith); every = λ x h. absurd (omega arith) }
  least_representatives (suc m) hm = go (cases_Bool (none_below J m m)) (least_representatives m (omega arith))
    where
      wider : All (λ r. r < m) (least J m) → All (λ r. r < suc m) (least J m)
      wider = All-weaker (λ r. r < m) (λ r. r < suc m) (λ r h. omega arith) (least J m)

      go : (none_below J m m ≡ true) ⊎ (none_below J m m ≡ false) → Representatives m (Joins J) (least J m) → Representatives (suc m) (Joins J) (least J (suc m))
      go (inl t) ih = rw (least_more J m t) (record {
        inside = All-cons (λ r. r < suc m) m (least J m) (omega arith) (wider ih.inside);
        unrelated = AllPairs-cons (λ u r. Joins J u r → ⊥) m (least J m) (All-weaker (λ r. r < m) (λ r. Joins J m r → ⊥) (λ r h j. none_joined J m m t r h (e.turned m r (omega arith) (omega arith) j)) (least J m) ih.inside) ih.unrelated;
        every = λ x h. pick x (eq-or-lt_of_le {n = x} {m = m} (omega arith));
      })
        where
          pick : (x : ℕ) → (x ≡ m) ⊎ (x < m) → Any (Joins J x) (m ∷ least J m)
          pick x (inl i) = (0, m, omega arith, refl, rw i (e.itself m (omega arith)))
          pick x (inr h) = let c = ih.every x h in (suc c.0, c.1, omega (arith, c.2), c.3, c.4)
      go (inr t) ih = rw (least_same J m t) (record { inside = wider ih.inside; unrelated = ih.unrelated; every = λ x h. pick x (eq-or-lt_of_le {n = x} {m = m} (omega arith)) })
        where
          pick : (x : ℕ) → (x ≡ m) ⊎ (x < m) → Any (Joins J x) (least J m)
          pick x (inl i) =
              let s = some_joined J m m t in
              let hs = s.1 in
              picked (λ r. r < m) (Joins J s.0) (Joins J x)
              (λ r hr j. rw i (e.chained m s.0 r (omega arith) (omega arith) (omega arith) (e.turned s.0 m (omega arith) (omega arith) s.2) j))
              (least J m) ih.inside (ih.every s.0 s.1)
          pick x (inr h) = ih.every x h

  -- The relation has as many classes as there are lowest states of classes.
  pub classes_has : HasClasses n (Joins J) (classes J n)
  unfolding classes
  classes_has =
      let l = least_representatives n (omega arith) in
      record { found = (least J n, l, refl); only = λ k r. representatives_same k (least J n) r l }

  -- Of representatives after x and y are joined, one was joined to x or to y before. If to x, then y before the list makes representatives of the classes there were.
  representatives_part : (x y : ℕ) → x < n → y < n → J x y ≡ false → (l : List ℕ) → Representatives n (Joins (join J x y)) l → Any (Joins J x) l → Representatives n (Joins J) (y ∷ l)
  representatives_part x y hx hy ne l a (i, r, h, at, xr) = record {
    inside = All-cons (λ s. s < n) y l hy a.inside;
    unrelated = AllPairs-cons (λ u s. Joins J u s → ⊥) y l (All-from_get_or (λ s. Joins J y s → ⊥) l r apart) (λ p q d lt hq t. a.unrelated p q d lt hq (join_holds J x y _ _ t));
    every = λ z hz. let c = a.every z hz in pick z hz c (route J x y z c.1 c.4);
  }
    where
      hr : r < n
      hr = All-contains (λ s. s < n) l r a.inside (i, h, at)

      rx : Joins J r x
      rx = e.turned x r hx hr xr

      apart : (j : ℕ) → j < length l → Joins J y (get_or l j r) → ⊥
      apart j hj t =
          let s = get_or l j r in
          ⊎_elim
          (λ lt. a.unrelated i j r lt hj (rw at (routed J x y r s (over rx t))))
          (λ ge. ⊎_elim
          (λ lt. a.unrelated j i r lt h (rw at (routed J x y s r (back (e.turned y s hy (a.inside j r hj) t) xr))))
          (λ le. let same : i ≡ j = omega arith in
          both_ways (J x y) ne (e.chained x r y hx hr hy xr (e.turned y r hy hr (ap (J y) (sym at ∙ ap (λ k. get_or l k r) same) ∙ t))))
          (cases_lt j i))
          (cases_lt i j)

      pick : (z : ℕ) → z < n → (c : Any (Joins (join J x y) z) l) → Route J x y z c.1 → Any (Joins J z) (y ∷ l)
      pick z hz c (before t) = (suc c.0, c.1, omega (arith, c.2), c.3, t)
      pick z hz c (over s t) = (suc i, r, omega (arith, h), at, e.chained z x r hz hx hr s xr)
      pick z hz c (back s t) = (0, y, omega arith, refl, s)

-- Joining two classes makes one fewer.
pub classes_join : (n : ℕ) (J : ℕ → ℕ → Bool) → EquivalenceOn n (Joins J) → (x y : ℕ) → x < n → y < n → J x y ≡ false → suc (classes (join J x y) n) ≡ classes J n
unfolding classes
classes_join n J e x y hx hy ne = go (route J x y x c.1 c.4)
  where
    k : List ℕ
    k = least (join J x y) n

    a : Representatives n (Joins (join J x y)) k
    a = least_representatives n (join J x y) (join_equivalence n J e x y hx hy) n (omega arith)

    c : Any (Joins (join J x y) x) k
    c = a.every x hx

    go : Route J x y x c.1 → suc (length k) ≡ classes J n
    go (before t) = (classes_has n J e).only (y ∷ k) (representatives_part n J e x y hx hy ne k a (c.0, c.1, c.2, c.3, t))
    go (over s t) = (classes_has n J e).only (x ∷ k) (representatives_part n J e y x hy hx (false_from_ne_true (J y x) (λ j. both_ways (J x y) ne (e.turned y x hy hx j))) k
        (subst (λ L. Representatives n (Joins L) k) (λ i u v. join_swapped J x y u v i) a) (c.0, c.1, c.2, c.3, t))
    go (back s t) = absurd (both_ways (J x y) ne s)

-- Tests that agree below n have one number of classes.
none_agrees : (n : ℕ) (J L : ℕ → ℕ → Bool) → Agree n J L → (x m : ℕ) → x < n → m ≤ n → none_below J x m ≡ none_below L x m
unfolding none_below
none_agrees n J L a x zero hx hm = refl
none_agrees n J L a x (suc m) hx hm = rw (a m x (omega arith) hx, none_agrees n J L a x m hx (omega arith))

least_agrees : (n : ℕ) (J L : ℕ → ℕ → Bool) → Agree n J L → (m : ℕ) → m ≤ n → least J m ≡ least L m
unfolding least
least_agrees n J L a zero hm = refl
least_agrees n J L a (suc m) hm = rw (none_agrees n J L a m m (omega arith) (omega arith), least_agrees n J L a m (omega arith))

pub classes_agree : (n : ℕ) (J L : ℕ → ℕ → Bool) → Agree n J L → classes J n ≡ classes L n
unfolding classes
classes_agree n J L a = ap length (least_agrees n J L a n (omega arith))

-- There are no more classes than states,
pub classes_few : (J : ℕ → ℕ → Bool) (n : ℕ) → classes J n ≤ n
unfolding classes least
classes_few J zero = omega arith
classes_few J (suc n) =
    let ih = classes_few J n in
    cond_both (none_below J n n) (n ∷ least J n) (least J n) (λ l. length l ≤ suc n) (λ _. omega arith) (λ _. omega arith)

apart_all : (n : ℕ) → classes eqb n ≡ n
unfolding classes least
apart_all zero = refl
apart_all (suc n) =
    let ih = apart_all n in
    cond_both (none_below eqb n n) (n ∷ least eqb n) (least eqb n) (λ l. length l ≡ suc n) (λ _. ap suc ih)
    (λ t. let s = some_joined eqb n n t in let h = s.1 in let j = eqb-true _ _ s.2 in absurd (omega arith))

-- and as many where no two states are joined.
pub classes_apart : (n : ℕ) (J : ℕ → ℕ → Bool) → Agree n J (λ u v. u == v) → classes J n ≡ n
classes_apart n J a = classes_agree n J eqb a ∙ apart_all n

-- What is said of classes carries over between relations that are one on the states below n.
representatives_carry : (n : ℕ) (R S : ℕ → ℕ → Type 0) → ((x y : ℕ) → x < n → y < n → R x y → S x y) → ((x y : ℕ) → x < n → y < n → S x y → R x y) →
    (l : List ℕ) → Representatives n R l → Representatives n S l
representatives_carry n R S there back_again l a = record {
  inside = a.inside;
  unrelated = λ i j d lt h s. a.unrelated i j d lt h (back_again _ _ (a.inside i d (omega arith)) (a.inside j d h) s);
  every = λ x hx. picked (λ r. r < n) (R x) (S x) (λ r hr. there x r hx hr) l a.inside (a.every x hx);
}

pub classes_carry : (n c : ℕ) (R S : ℕ → ℕ → Type 0) → ((x y : ℕ) → x < n → y < n → R x y → S x y) → ((x y : ℕ) → x < n → y < n → S x y → R x y) →
    HasClasses n R c → HasClasses n S c
classes_carry n c R S f g h = record {
  found = (h.found.0, representatives_carry n R S f g h.found.0 h.found.1, h.found.2);
  only = λ l a. h.only l (representatives_carry n S R g f l a);
}
