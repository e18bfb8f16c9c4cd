-- Counting the classes in one pass: a state begins a class where its label was not seen before.
use Rattle.std.proofs.Common.{◌≡◌, ℕ, suc, ◌+◌, ◌<◌, Bool, true, false, cond, not, ◌&&◌, List, length, get_or, replicate, set, sym, refl, ap, ◌∙◌, ⊎_elim, add-one, arith, length-set, get_or-set_other, get_or-set_same}
use Rattle.std.proofs.lemmas.Bool.{cases_Bool, cases_eq, eq-eqb, ne_eqb}
use Rattle.std.proofs.lemmas.List.{get_or-replicate, length-replicate}
use Rattle.register.specs.Labels.{Inside, same}
use Rattle.register.specs.Relations.{HasClasses, Joins, classes, least, none_below}
use Rattle.register.proofs.Counting.{classes_has, least_more, least_same}
use Rattle.register.proofs.Labelling.{same_equivalence}

-- After the first n states: how many classes there are, and which labels were seen.
pub record Counted (l : List ℕ) (seen : List Bool) (n total : ℕ) : Type 0 where
  pub long : length seen ≡ 4096
  pub is : total ≡ classes (same l) n
  pub sees : (u : ℕ) → u < 4096 → get_or seen (get_or l u 0) false ≡ not (none_below (same l) u n)

none_more : (J : ℕ → ℕ → Bool) (x m : ℕ) → none_below J x (m + 1) ≡ (not (J m x) && none_below J x m)
unfolding none_below
none_more J x m = rw add-one refl

classes_more : (J : ℕ → ℕ → Bool) (m : ℕ) → (none_below J m m ≡ true → classes J (m + 1) ≡ suc (classes J m)) × (none_below J m m ≡ false → classes J (m + 1) ≡ classes J m)
unfolding classes
classes_more J m = (λ t. rw (add-one, least_more J m t) refl, λ t. rw (add-one, least_same J m t) refl)

-- At first no label was seen.
pub counted_none : (l : List ℕ) → Inside l → Counted l (replicate 4096 false) 0 0
unfolding classes least none_below
counted_none l inside = record {
  long = length-replicate 4096 false;
  is = refl;
  sees = λ u hu. get_or-replicate 4096 (get_or l u 0) false false (inside u hu);
}

-- One state more.
pub counted_more : (l : List ℕ) (seen : List Bool) (n total more : ℕ) → n < 4096 → Inside l → Counted l seen n total → more ≡ cond (not (get_or seen (get_or l n 0) false)) 1 0 →
    Counted l (set seen (get_or l n 0) true) (n + 1) (total + more)
counted_more l seen n total more h inside k e = record {
  long = simp length-set k.long;
  is =
      let s = k.sees n h in
      let i = k.is in
      let step = classes_more (same l) n in
      ⊎_elim (λ t. let c = step.0 t in grind arith) (λ t. let c = step.1 t in grind arith) (cases_Bool (none_below (same l) n n));
  sees = λ u hu.
      let step = none_more (same l) u n in
      let lt : get_or l n 0 < length seen = omega (arith, k.long, inside n h) in
      ⊎_elim
      (λ (i : get_or l n 0 ≡ get_or l u 0).
      let t = eq-eqb (get_or l n 0) (get_or l u 0) i in
      ap (λ y. get_or (set seen (get_or l n 0) true) y false) (sym i) ∙ get_or-set_same seen (get_or l n 0) true false lt ∙ sym (ap not (rw t at step)))
      (λ (ne : get_or l n 0 ≡ get_or l u 0 → ⊥).
      let t = ne_eqb (get_or l n 0) (get_or l u 0) ne in
      get_or-set_other seen (get_or l n 0) (get_or l u 0) true false (λ i. ne (sym i)) ∙ k.sees u hu ∙ sym (ap not (rw t at step)))
      (cases_eq (get_or l n 0) (get_or l u 0));
}

-- The number of classes is that of any list of representatives.
pub represented : (l : List ℕ) (n c : ℕ) → c ≡ classes (same l) n → HasClasses n (Joins (same l)) c
represented l n c e = rw e (classes_has n (same l) (same_equivalence l n))
