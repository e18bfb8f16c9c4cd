-- One label written for another, and what becomes of the relation.
use Rattle.std.proofs.Common.{◌≡◌, ℕ, cond, ◌&&◌, ◌||◌, eqb, List, get_or, refl, arith}
use Rattle.std.proofs.lemmas.Bool.Decides.{nat_tests}
use Rattle.std.proofs.lemmas.Bool.{eq-eqb}
use Rattle.register.specs.Labels.{same}
use Rattle.register.specs.Relations.{Agree, EquivalenceOn, Joins, join}
use Rattle.register.specs.Rings.{Relabelled}

-- The label b for a, and every other label as it is.
abbrev pub put : ℕ → ℕ → ℕ → ℕ
put a b x = cond (eqb x a) b x

pub put_here : (a b : ℕ) → put a b a ≡ b
put_here a b = grind (arith, nat_tests)

pub put_there : (a b : ℕ) → put a b b ≡ b
put_there a b = grind (arith, nat_tests)

pub put_away : (a b x : ℕ) → (x ≡ a → ⊥) → put a b x ≡ x
put_away a b x ne = grind (arith, nat_tests)

put_joins : (a b x y : ℕ) → eqb (put a b x) (put a b y) ≡ (eqb x y || (eqb x a && eqb b y) || (eqb x b && eqb a y))
put_joins a b x y = grind (arith, nat_tests)

-- After the class of p has the label of q, just the classes of p and q are joined.
pub relabelled_joins : (l m : List ℕ) (p q : ℕ) → Relabelled l m p (get_or l q 0) → Agree 4096 (same m) (join (same l) p q)
relabelled_joins l m p q h u v hu hv = rw (h u hu, h v hv) (put_joins (get_or l p 0) (get_or l q 0) (get_or l u 0) (get_or l v 0))

-- To have one label is an equivalence.
pub same_equivalence : (l : List ℕ) (n : ℕ) → EquivalenceOn n (Joins (same l))
same_equivalence l n = record {
  itself = λ x _. eq-eqb (get_or l x 0) (get_or l x 0) refl;
  turned = λ x y _ _ e. grind (arith, nat_tests);
  chained = λ x y z _ _ _ e f. grind (arith, nat_tests);
}
