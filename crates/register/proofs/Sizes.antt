-- How many states have a label: where each has its own, and after one label is written for another.
use Rattle.std.proofs.Common.{◌≡◌, ℕ, suc, ◌+◌, ◌<◌, ◌≤◌, cond, ◌&&◌, eqb, ltb, leb, ◌≢◌, List, [], ◌∷◌, length, get_or, sym, refl, ap, ◌∙◌, ⊎_elim, arith}
use Rattle.std.specs.List.{count_by}
use Rattle.std.proofs.lemmas.Bool.Decides.{nat_tests}
use Rattle.std.proofs.lemmas.Bool.{cases_eq, eq-eqb, ne_eqb}
use Rattle.std.proofs.lemmas.List.Sums.{sum_by-cons}
use Rattle.register.specs.Labels.{Inside}
use Rattle.register.specs.Rings.{Added, Numbered, OnesFrom, Relabelled, Sized}
use Rattle.register.proofs.Labelling.{put, put_away, put_here}

-- How many states have the label x.
abbrev many : ℕ → List ℕ → ℕ
many x l = count_by (λ y. eqb y x) l

many_more : (x y : ℕ) (l : List ℕ) → many x (y ∷ l) ≡ cond (eqb y x) 1 0 + many x l
many_more x y l = sum_by-cons (λ z. cond (eqb z x) 1 0) y l

-- Among numbers from k on, each one more than the one before, x stands once or not at all.
once : (x k : ℕ) (l : List ℕ) → ((u : ℕ) → u < length l → get_or l u 0 ≡ k + u) → many x l ≡ cond (leb k x && ltb x (k + length l)) 1 0
once x k [] h = grind (arith, nat_tests)
once x k (y ∷ l) h =
    let ih = once x (suc k) l (λ u lt. h (suc u) (omega arith) ∙ omega arith) in
    let e : y ≡ k + 0 = h 0 (omega arith) in
    rw (many_more x y l, ih) (grind (arith, nat_tests))

-- Where each state has its own number, every size is 1.
pub sized_numbered : (l sizes : List ℕ) → length l ≡ 4096 → Numbered l → OnesFrom 0 sizes → Sized l sizes
sized_numbered l sizes long h ones u hu =
    let e = h u hu in
    let o = once u 0 l (λ v lt. h v (omega arith) ∙ omega arith) in
    rw e (ones u (omega arith) hu ∙ sym (o ∙ grind (arith, nat_tests)))

-- What becomes of the numbers where b is written for a.
module _ (a b : ℕ) (ne : a ≡ b → ⊥) where
  many_merged : (l m : List ℕ) → length l ≡ length m → ((u : ℕ) → u < length l → get_or m u 0 ≡ put a b (get_or l u 0)) → many b m ≡ many b l + many a l
  many_merged [] [] e h = refl
  many_merged [] (y ∷ m) e h = absurd (omega (arith, e))
  many_merged (x ∷ l) [] e h = absurd (omega (arith, e))
  many_merged (x ∷ l) (y ∷ m) e h =
      let ih = many_merged l m (omega (arith, e)) (λ u lt. h (suc u) (omega arith)) in
      let t : y ≡ put a b x = h 0 (omega arith) in
      rw (many_more b y m, many_more b x l, many_more a x l, ih) (grind (arith, nat_tests))

  many_others : (z : ℕ) → (z ≡ a → ⊥) → (z ≡ b → ⊥) → (l m : List ℕ) → length l ≡ length m → ((u : ℕ) → u < length l → get_or m u 0 ≡ put a b (get_or l u 0)) → many z m ≡ many z l
  many_others z na nb [] [] e h = refl
  many_others z na nb [] (y ∷ m) e h = absurd (omega (arith, e))
  many_others z na nb (x ∷ l) [] e h = absurd (omega (arith, e))
  many_others z na nb (x ∷ l) (y ∷ m) e h =
      let ih = many_others z na nb l m (omega (arith, e)) (λ u lt. h (suc u) (omega arith)) in
      let t : y ≡ put a b x = h 0 (omega arith) in
      rw (many_more z y m, many_more z x l, ih) (grind (arith, nat_tests))

  both_few : (l : List ℕ) → many b l + many a l ≤ length l
  both_few [] = omega arith
  both_few (x ∷ l) = let ih = both_few l in rw (many_more b x l, many_more a x l) (grind (arith, nat_tests))

module _ (l sizes : List ℕ) (p q : ℕ) (long : length l ≡ 4096) (hp : p < 4096) (hq : q < 4096) (ne : get_or l p 0 ≡ get_or l q 0 → ⊥) (sized : Sized l sizes) where
  -- Two classes together have no more states than there are.
  pub sum_few : get_or sizes (get_or l q 0) 0 + get_or sizes (get_or l p 0) 0 ≤ 4096
  sum_few =
      let few = both_few (get_or l p 0) (get_or l q 0) ne l in
      omega (arith, sized p hp, sized q hq)

  -- After the labels are written and the sizes are added, the sizes are right again.
  pub sized_merged : (m sums : List ℕ) → length m ≡ 4096 → Inside l → Relabelled l m p (get_or l q 0) → Added sizes sums (get_or l q 0) (get_or l p 0) → Sized m sums
  sized_merged m sums long_m inside moved more u hu =
      ⊎_elim
      (λ (e : get_or m u 0 ≡ get_or l q 0).
      let both = many_merged (get_or l p 0) (get_or l q 0) ne l m (omega arith) (λ v lt. moved v (omega arith)) in
      let sum = more (get_or l q 0) (inside q hq) in
      let here = eq-eqb (get_or l q 0) (get_or l q 0) refl in
      rw e (rw here at sum ∙ rw (sized p hp, sized q hq) (sym both)))
      (λ (nb : get_or m u 0 ≡ get_or l q 0 → ⊥).
      let nl : get_or l u 0 ≢ get_or l p 0 = λ s. nb (moved u hu ∙ ap (put (get_or l p 0) (get_or l q 0)) s ∙ put_here (get_or l p 0) (get_or l q 0)) in
      let e : get_or m u 0 ≡ get_or l u 0 = moved u hu ∙ put_away (get_or l p 0) (get_or l q 0) (get_or l u 0) nl in
      let nb' : get_or l u 0 ≢ get_or l q 0 = λ s. nb (e ∙ s) in
      let same_many = many_others (get_or l p 0) (get_or l q 0) ne (get_or l u 0) nl nb' l m (omega arith) (λ v lt. moved v (omega arith)) in
      let kept = more (get_or l u 0) (inside u hu) in
      let away = ne_eqb (get_or l u 0) (get_or l q 0) nb' in
      rw e (rw away at kept ∙ sized u hu ∙ sym same_many))
      (cases_eq (get_or m u 0) (get_or l q 0))
