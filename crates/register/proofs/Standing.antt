-- What is joined before a comparing: where comparing can begin, and what carries over between tests that agree.
use Rattle.std.proofs.Common.{◌≡◌, ℕ, ◌<◌, ◌↔◌, Bool, List, [], refl, sym, subst, ap, ◌∙◌}
use Rattle.std.specs.Cmp.{booleans_Decides}
use Rattle.std.proofs.lemmas.Bool.{both_ways, eq-eqb, eqb-true}
use Rattle.automaton.specs.Automata.{Automaton}
use Rattle.automaton.specs.Words.{walk}
use Rattle.automaton.proofs.Walks.{walk_below}
use Rattle.register.specs.Relations.{Below, Holds, Joins, Smallest, classes}
use Rattle.register.specs.Pairs.{AgreeLaw, ApartLaw, Held, IsSmallest, KeptLaw, SmallestLaw, Standing, kept_alike}
use Rattle.register.proofs.Counting.{classes_agree, classes_apart, classes_carry, classes_has}
use Rattle.register.proofs.Joins.{join_agrees}

-- The classes of the smallest relation are those of the test.
pub holding : (m : Automaton) (alike : ℕ → ℕ → Bool) (held : List (ℕ × ℕ)) (J : ℕ → ℕ → Bool) → Below m.count held → Standing m alike J → IsSmallest m (Holds held) J → Held m alike held J
holding m alike held J b s i = record {
  below = b;
  standing = s;
  smallest = i;
  counted = classes_carry m.count (classes J m.count) (Joins J) (Smallest m (Holds held)) (λ x y h k. (i x y h k).0) (λ x y h k. (i x y h k).1) (classes_has m.count J s.invariant.equivalence);
}

pub apart_law : ApartLaw
apart_law m l alike o J a = record { held = holding m alike [] J tt standing smallest; counted = classes_apart m.count J a }
  where
    one : (x y : ℕ) → x < m.count → y < m.count → Joins J x y → x ≡ y
    one x y hx hy t = eqb-true x y (sym (a x y hx hy) ∙ t)

    same : (x y : ℕ) → x < m.count → y < m.count → x ≡ y → Joins J x y
    same x y hx hy e = a x y hx hy ∙ eq-eqb x y e

    standing : Standing m alike J
    standing = record {
      invariant = record {
        equivalence = record {
          itself = λ x hx. same x x hx hx refl;
          turned = λ x y hx hy t. same y x hy hx (sym (one x y hx hy t));
          chained = λ x y z hx hy hz t r. same x z hx hz (one x y hx hy t ∙ one y z hy hz r);
        };
        steps = λ x y b hx hy hb t. same (m.next x b) (m.next y b) (l.stays x b hx hb) (l.stays y b hy hb) (ap (λ z. m.next z b) (one x y hx hy t));
      };
      unseparated = λ x y hx hy t w e. both_ways _ e.apart (subst (λ (v : ℕ). Joins alike (walk m x w) (walk m v w)) (one x y hx hy t) (o.itself _ (walk_below m l w x hx e.over)));
    }

    smallest : IsSmallest m (Holds []) J
    smallest x y hx hy = ((λ t E e h. subst (λ (v : ℕ). Joins E x v) (one x y hx hy t) (e.equivalence.itself x hx)), (λ f. f J standing.invariant tt))

pub agree_law : AgreeLaw
agree_law m l alike J L a = record {
  standing = stands;
  held = λ held h. holding m alike held L h.below (stands h.standing) (λ x y hx hy. ((λ t. (h.smallest x y hx hy).0 (back x y hx hy t)), (λ f. there x y hx hy ((h.smallest x y hx hy).1 f))));
  joined = λ x y hx hy. join_agrees m.count J L x y hx hy a;
  counted = classes_agree m.count J L a;
}
  where
    there : (x y : ℕ) → x < m.count → y < m.count → Joins J x y → Joins L x y
    there x y hx hy t = sym (a x y hx hy) ∙ t

    back : (x y : ℕ) → x < m.count → y < m.count → Joins L x y → Joins J x y
    back x y hx hy t = a x y hx hy ∙ t

    stands : Standing m alike J → Standing m alike L
    stands s = record {
      invariant = record {
        equivalence = record {
          itself = λ x h. there x x h h (s.invariant.equivalence.itself x h);
          turned = λ x y h k t. there y x k h (s.invariant.equivalence.turned x y h k (back x y h k t));
          chained = λ x y z h k i t r. there x z h i (s.invariant.equivalence.chained x y z h k i (back x y h k t) (back y z k i r));
        };
        steps = λ x y b h k hb t. there (m.next x b) (m.next y b) (l.stays x b h hb) (l.stays y b k hb) (s.invariant.steps x y b h k hb (back x y h k t));
      };
      unseparated = λ x y h k t. s.unseparated x y h k (back x y h k t);
    }

pub smallest_law : SmallestLaw
smallest_law m held = record {
  equivalence = record {
    itself = λ x hx E e h. e.equivalence.itself x hx;
    turned = λ x y hx hy t E e h. e.equivalence.turned x y hx hy (t E e h);
    chained = λ x y z hx hy hz t r E e h. e.equivalence.chained x y z hx hy hz (t E e h) (r E e h);
  };
  steps = λ x y a hx hy ha t E e h. e.steps x y a hx hy ha (t E e h);
}

pub kept_law : KeptLaw
kept_law = record {
  says = says;
  equivalence = λ m. record {
    itself = λ x h. (says m x x).1 refl;
    turned = λ x y h k t. (says m y x).1 (sym ((says m x y).0 t));
    chained = λ x y z h k l t r. (says m x z).1 ((says m x y).0 t ∙ (says m y z).0 r);
  };
}
  where
    says : (m : Automaton) (x y : ℕ) → Joins (kept_alike m) x y ↔ (m.kept x ≡ m.kept y)
    says m x y = booleans_Decides (m.kept x) (m.kept y)
