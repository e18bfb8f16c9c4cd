-- Two rings made one, by exchanging what comes after two states.
use Rattle.std.proofs.Common.{◌≡◌, ℕ, ◌<◌, Bool, true, false, ◌&&◌, eqb, ◌≢◌, ◌⊎◌, List, get_or, sym, ap, ◌∙◌, inl, inr, ⊎_elim, arith}
use Rattle.std.proofs.lemmas.Bool.Decides.{nat_tests}
use Rattle.std.proofs.lemmas.Bool.{and_from, and_parts, both_ways, cases_Bool, cases_eq, eq-eqb, eqb-true}
use Rattle.register.specs.Labels.{Inside}
use Rattle.register.specs.Rings.{StaysInClass, Relabelled, Round, Spliced}
use Rattle.register.proofs.Labelling.{put, put_here, put_there}

-- What a splice does at p, at q and at every other state.
record Exchanged (s r : List ℕ) (p q : ℕ) : Type 0 where
  first : get_or r p 0 ≡ get_or s q 0
  second : get_or r q 0 ≡ get_or s p 0
  others : (u : ℕ) → u < 4096 → (u ≡ p → ⊥) → (u ≡ q → ⊥) → get_or r u 0 ≡ get_or s u 0

exchanged : (s r : List ℕ) (p q : ℕ) → p < 4096 → q < 4096 → Spliced s r p q → Exchanged s r p q
exchanged s r p q hp hq x = record {
  first = let e = x p hp in grind (arith, nat_tests);
  second = let e = x q hq in grind (arith, nat_tests);
  others = λ u hu np nq. let e = x u hu in grind (arith, nat_tests);
}

turned : {s r : List ℕ} {p q : ℕ} → Exchanged s r p q → Exchanged s r q p
turned x = record { first = x.second; second = x.first; others = λ u hu a b. x.others u hu b a }

-- A state is p, or q, or neither.
three : {A : Type 0} (u p q : ℕ) → (u ≡ p → A) → (u ≡ q → A) → ((u ≡ p → ⊥) → (u ≡ q → ⊥) → A) → A
three u p q f g h = ⊎_elim f (λ (np : u ≡ p → ⊥). ⊎_elim g (λ (nq : u ≡ q → ⊥). h np nq) (cases_eq u q)) (cases_eq u p)

pub inside_spliced : (s r : List ℕ) (p q : ℕ) → p < 4096 → q < 4096 → Inside s → Spliced s r p q → Inside r
inside_spliced s r p q hp hq h x' u hu =
    let x = exchanged s r p q hp hq x' in
    three u p q
    (λ (e : u ≡ p). rw (e, x.first) (h q hq))
    (λ (e : u ≡ q). rw (e, x.second) (h p hp))
    (λ (np : u ≡ p → ⊥) (nq : u ≡ q → ⊥). rw (x.others u hu np nq) (h u hu))

put_below : (a b x n : ℕ) → b < n → x < n → put a b x < n
put_below a b x n h k = grind (arith, nat_tests)

pub inside_relabelled : (l m : List ℕ) (p q : ℕ) → q < 4096 → Inside l → Relabelled l m p (get_or l q 0) → Inside m
inside_relabelled l m p q hq h e u hu = rw (e u hu) (put_below (get_or l p 0) (get_or l q 0) (get_or l u 0) 4096 (h q hq) (h u hu))

pub keeps_spliced : (l m s r : List ℕ) (p q : ℕ) → p < 4096 → q < 4096 → Inside s → StaysInClass l s → Relabelled l m p (get_or l q 0) → Spliced s r p q → StaysInClass m r
keeps_spliced l m s r p q hp hq h k e x' u hu =
    let x = exchanged s r p q hp hq x' in
    let a = get_or l p 0 in
    let b = get_or l q 0 in
    three u p q
    (λ (i : u ≡ p).
    let t = e (get_or s q 0) (h q hq) ∙ ap (put a b) (k q hq) ∙ put_there a b ∙ sym (e p hp ∙ put_here a b) in
    rw (i, x.first) t)
    (λ (i : u ≡ q).
    let t = e (get_or s p 0) (h p hp) ∙ ap (put a b) (k p hp) ∙ put_here a b ∙ sym (e q hq ∙ put_there a b) in
    rw (i, x.second) t)
    (λ (np : u ≡ p → ⊥) (nq : u ≡ q → ⊥). rw (x.others u hu np nq) (e (get_or s u 0) (h u hu) ∙ ap (put a b) (k u hu) ∙ sym (e u hu)))

module _ (l s r : List ℕ) (inside : Inside s) (keeps : StaysInClass l s) (round : Round l s) (P : ℕ → Bool) (on : (u : ℕ) → u < 4096 → P u ≡ true → P (get_or r u 0) ≡ true) where
  -- A test that the new ring carries on holds at q where it holds at p,
  across : (p q : ℕ) → p < 4096 → q < 4096 → (get_or l p 0 ≡ get_or l q 0 → ⊥) → Exchanged s r p q → P p ≡ true → P q ≡ true
  across p q hp hq ne x e =
      ⊎_elim
      (λ (yes : P q ≡ true). yes)
      (λ (not_q : P q ≡ false). (and_parts _ _ (round (record {
        holds = λ u. P u && eqb (get_or l u 0) (get_or l q 0);
        first = get_or s q 0;
        other = q;
        goes_on = λ u hu t.
            let tu = and_parts _ _ t in
            let lu = eqb-true _ _ tu.1 in
            let np : u ≢ p = λ i. ne (sym (ap (λ j. get_or l j 0) i) ∙ lu) in
            let nq : u ≢ q = λ i. both_ways (P q) not_q (sym (ap P i) ∙ tu.0) in
            and_from _ _ (sym (ap P (x.others u hu np nq)) ∙ on u hu tu.0) (eq-eqb _ _ (keeps u hu ∙ lu));
        first_below = inside q hq;
        other_below = hq;
        one_class = keeps q hq;
        begins = and_from _ _ (sym (ap P x.first) ∙ on p hp e) (eq-eqb _ _ (keeps q hq));
      }))).0)
      (cases_Bool (P q))

  -- and so it is one that the old ring carries on.
  carried : (p q : ℕ) → p < 4096 → q < 4096 → (get_or l p 0 ≡ get_or l q 0 → ⊥) → Exchanged s r p q → (u : ℕ) → u < 4096 → P u ≡ true → P (get_or s u 0) ≡ true
  carried p q hp hq ne x u hu e =
      three u p q
      (λ (i : u ≡ p). ap (λ j. P (get_or s j 0)) i ∙ sym (ap P x.second) ∙ on q hq (across p q hp hq ne x (sym (ap P i) ∙ e)))
      (λ (i : u ≡ q). ap (λ j. P (get_or s j 0)) i ∙ sym (ap P x.first) ∙ on p hp (across q p hq hp (λ t. ne (sym t)) (turned x) (sym (ap P i) ∙ e)))
      (λ (np : u ≡ p → ⊥) (nq : u ≡ q → ⊥). sym (ap P (x.others u hu np nq)) ∙ on u hu e)

-- States of one class now were of one class, or one of each of the two that were made one.
put_cases : (a b x y : ℕ) → put a b x ≡ put a b y → (x ≡ y) ⊎ (((x ≡ a) × (y ≡ b)) ⊎ ((x ≡ b) × (y ≡ a)))
put_cases a b x y e =
    ⊎_elim
    (λ (xa : x ≡ a). ⊎_elim
    (λ (ya : y ≡ a). inl (xa ∙ sym ya))
    (λ (ny : y ≡ a → ⊥). inr (inl (xa, grind (arith, nat_tests))))
    (cases_eq y a))
    (λ (nx : x ≡ a → ⊥). ⊎_elim
    (λ (ya : y ≡ a). inr (inr (grind (arith, nat_tests), ya)))
    (λ (ny : y ≡ a → ⊥). inl (grind (arith, nat_tests)))
    (cases_eq y a))
    (cases_eq x a)

pub round_spliced : (l m s r : List ℕ) (p q : ℕ) → p < 4096 → q < 4096 → (get_or l p 0 ≡ get_or l q 0 → ⊥) → Inside s → StaysInClass l s → Round l s →
    Relabelled l m p (get_or l q 0) → Spliced s r p q → Round m r
round_spliced l m s r p q hp hq ne inside keeps round e x' w =
    go (put_cases (get_or l p 0) (get_or l q 0) (get_or l w.first 0) (get_or l w.other 0) (sym (e w.first w.first_below) ∙ w.one_class ∙ e w.other w.other_below))
  where
    x : Exchanged s r p q
    x = exchanged s r p q hp hq x'

    P : ℕ → Bool
    P = w.holds

    carry : (a b : ℕ) → a < 4096 → b < 4096 → get_or l a 0 ≡ get_or l b 0 → P a ≡ true → P b ≡ true
    carry a b ha hb i t = round (record {
      holds = P;
      first = a;
      other = b;
      goes_on = carried l s r inside keeps round P w.goes_on p q hp hq ne x;
      first_below = ha;
      other_below = hb;
      one_class = i;
      begins = t;
    })

    go : (get_or l w.first 0 ≡ get_or l w.other 0) ⊎ (((get_or l w.first 0 ≡ get_or l p 0) × (get_or l w.other 0 ≡ get_or l q 0)) ⊎ ((get_or l w.first 0 ≡ get_or l q 0) × (get_or l w.other 0 ≡ get_or l p 0))) → P w.other ≡ true
    go (inl i) = carry w.first w.other w.first_below w.other_below i w.begins
    go (inr (inl i)) =
        carry q w.other hq w.other_below (sym i.1) (across l s r inside keeps round P w.goes_on p q hp hq ne x (carry w.first p w.first_below hp i.0 w.begins))
    go (inr (inr i)) =
        carry p w.other hp w.other_below (sym i.1) (across l s r inside keeps round P w.goes_on q p hq hp (λ t. ne (sym t)) (turned x) (carry w.first q w.first_below hq i.0 w.begins))
