-- The walk along a ring that gives a class another label.
use Rattle.std.proofs.Common.{◌≡◌, ℕ, ◌<◌, true, cond, not, eqb, ◌==◌, ◌≢◌, List, length, get_or, set, sym, refl, ap, ◌∙◌, ⊎_elim, arith, length-set, get_or-set_other, get_or-set_same}
use Rattle.std.specs.List.{count_by}
use Rattle.std.proofs.lemmas.Bool.{cases_eq, eq-eqb, eqb-true, eqb-false, ne_eqb, not-true, not_from_false}
use Rattle.std.proofs.lemmas.List.Sums.{sum_by-set}
use Rattle.register.specs.Labels.{Inside}
use Rattle.register.specs.Rings.{StaysInClass, Relabelled, Round}

-- The states that still have the label x are one fewer after each write.
pub one_fewer : (l : List ℕ) (i x y : ℕ) → i < length l → get_or l i 0 ≡ x → (x ≡ y → ⊥) → count_by (λ z. z == x) (set l i y) < count_by (λ z. z == x) l
one_fewer l i x y h e ne =
    let s = sum_by-set (λ z. cond (eqb z x) 1 0) l i y 0 h in
    let a = eq-eqb (get_or l i 0) x e in
    let b = ne_eqb y x (λ t. ne (sym t)) in
    let t = rw (a, b) at s in
    omega arith

-- A state that is followed by itself is the only one of its class, and takes the new label alone.
pub alone : (l ring : List ℕ) (start to : ℕ) → length l ≡ 4096 → start < 4096 → get_or ring start 0 ≡ start → Round l ring → Relabelled l (set l start to) start to
alone l ring start to long h itself round u hu =
    ⊎_elim
    (λ (s : u ≡ start). let t = eq-eqb (get_or l u 0) (get_or l start 0) (ap (λ j. get_or l j 0) s) in
    rw t (ap (λ j. get_or (set l start to) j 0) s ∙ get_or-set_same l start to 0 (omega arith)))
    (λ (ne : u ≢ start). let t = ne_eqb (get_or l u 0) (get_or l start 0) (λ s. ne (eqb-true u start (round (record {
      holds = λ v. eqb v start;
      first = start;
      other = u;
      goes_on = λ v _ p. eq-eqb _ _ (ap (λ j. get_or ring j 0) (eqb-true v start p) ∙ itself);
      first_below = h;
      other_below = hu;
      one_class = sym s;
      begins = eq-eqb start start refl;
    })))) in
    rw t (get_or-set_other l start u to 0 ne))
    (cases_eq u start)

-- What the walk keeps. The labels were l and are m now, and `at` is the state that comes next: a state with a new label is followed by another, or by `at`.
pub record Walking (l m ring : List ℕ) (start to at : ℕ) : Type 0 where
  pub long : length m ≡ 4096
  pub another : get_or l start 0 ≡ to → ⊥
  pub below : at < 4096
  pub here : get_or l at 0 ≡ get_or l start 0
  pub others : (u : ℕ) → u < 4096 → (get_or l u 0 ≡ get_or l start 0 → ⊥) → get_or m u 0 ≡ get_or l u 0
  pub changed : (u : ℕ) → u < 4096 → (get_or m u 0 ≡ get_or l u 0 → ⊥) → get_or m u 0 ≡ to
  pub along : (u : ℕ) → u < 4096 → (get_or m u 0 ≡ get_or l u 0 → ⊥) → (get_or ring u 0 ≡ at → ⊥) → get_or m (get_or ring u 0) 0 ≡ get_or l (get_or ring u 0) 0 → ⊥
  pub begun : get_or m start 0 ≡ get_or l start 0 → at ≡ start

pub walk_begins : (l ring : List ℕ) (start to : ℕ) → length l ≡ 4096 → start < 4096 → (get_or l start 0 ≡ to → ⊥) → Walking l l ring start to start
walk_begins l ring start to long h ne = record {
  long = long;
  another = ne;
  below = h;
  here = refl;
  others = λ u _ _. refl;
  changed = λ u _ x. absurd (x refl);
  along = λ u _ x. absurd (x refl);
  begun = λ _. refl;
}

pub walk_steps : (l m ring : List ℕ) (start to at : ℕ) → Inside ring → StaysInClass l ring → Walking l m ring start to at → get_or m at 0 ≡ get_or l start 0 →
    Walking l (set m at to) ring start to (get_or ring at 0)
walk_steps l m ring start to at inside keeps w e = record {
  long = simp length-set w.long;
  another = w.another;
  below = inside at w.below;
  here = keeps at w.below ∙ w.here;
  others = λ u h x. let ne : u ≢ at = λ s. x (ap (λ j. get_or l j 0) s ∙ w.here) in other u ne ∙ w.others u h x;
  changed = λ u h x. ⊎_elim (λ (s : u ≡ at). is_to u s) (λ (ne : u ≢ at). other u ne ∙ w.changed u h (λ y. x (other u ne ∙ y))) (cases_eq u at);
  along = λ u h x far back.
      let f = get_or ring u 0 in
      ⊎_elim
      (λ (s : u ≡ at). far (ap (λ j. get_or ring j 0) s))
      (λ (ne : u ≢ at). ⊎_elim
      (λ (s : f ≡ at). w.another (sym (ap (λ j. get_or l j 0) s ∙ w.here) ∙ sym back ∙ is_to f s))
      (λ (nf : f ≢ at). w.along u h (λ y. x (other u ne ∙ y)) nf (sym (other f nf) ∙ back))
      (cases_eq f at))
      (cases_eq u at);
  begun = λ s. ⊎_elim
      (λ (t : start ≡ at). absurd (w.another (sym s ∙ is_to start t)))
      (λ (ne : start ≢ at). absurd (ne (sym (w.begun (sym (other start ne) ∙ s)))))
      (cases_eq start at);
}
  where
    lt : at < length m
    lt = omega (arith, w.long, w.below)

    is_to : (u : ℕ) → u ≡ at → get_or (set m at to) u 0 ≡ to
    is_to u s = ap (λ j. get_or (set m at to) j 0) s ∙ get_or-set_same m at to 0 lt

    other : (u : ℕ) → u ≢ at → get_or (set m at to) u 0 ≡ get_or m u 0
    other u ne = get_or-set_other m at u to 0 ne

-- Where the state that comes next has its new label, the whole class has.
pub walk_ends : (l m ring : List ℕ) (start to at : ℕ) → start < 4096 → StaysInClass l ring → Round l ring → Walking l m ring start to at →
    (get_or m at 0 ≡ get_or l start 0 → ⊥) → Relabelled l m start to
walk_ends l m ring start to at h keeps round w e u hu =
    ⊎_elim
    (λ (s : get_or l u 0 ≡ get_or l start 0).
    let t = eq-eqb (get_or l u 0) (get_or l start 0) s in
    rw t (w.changed u hu (told u (round (record {
      holds = λ v. not (eqb (get_or m v 0) (get_or l v 0));
      first = start;
      other = u;
      goes_on = λ v hv p. test (get_or ring v 0) (on v hv (told v p));
      first_below = h;
      other_below = hu;
      one_class = sym s;
      begins = test start (λ x. e (ap (λ j. get_or m j 0) (w.begun x) ∙ x));
    })))))
    (λ (ne : get_or l u 0 ≡ get_or l start 0 → ⊥). let t = ne_eqb (get_or l u 0) (get_or l start 0) ne in rw t (w.others u hu ne))
    (cases_eq (get_or l u 0) (get_or l start 0))
  where
    told : (v : ℕ) → not (eqb (get_or m v 0) (get_or l v 0)) ≡ true → get_or m v 0 ≡ get_or l v 0 → ⊥
    told v p x = eqb-false _ _ (not-true _ p) x

    test : (v : ℕ) → (get_or m v 0 ≡ get_or l v 0 → ⊥) → not (eqb (get_or m v 0) (get_or l v 0)) ≡ true
    test v ne = not_from_false _ (ne_eqb _ _ ne)

    on : (v : ℕ) → v < 4096 → (get_or m v 0 ≡ get_or l v 0 → ⊥) → get_or m (get_or ring v 0) 0 ≡ get_or l (get_or ring v 0) 0 → ⊥
    on v hv changed x = ⊎_elim
        (λ (s : get_or ring v 0 ≡ at). e (ap (λ j. get_or m j 0) (sym s) ∙ x ∙ ap (λ j. get_or l j 0) s ∙ w.here))
        (λ (ne : get_or ring v 0 ≡ at → ⊥). w.along v hv changed ne x)
        (cases_eq (get_or ring v 0) at)
