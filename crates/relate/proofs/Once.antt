-- For any two sheets one line alone is printed.
use Rattle.std.proofs.Common.{◌≡◌, ℕ, List, Option, Some, None, inl, inr, refl, sym, subst, ◌∙◌}
use Rattle.explore.specs.Order.{First}
use Rattle.explore.proofs.Decided.{first_one}
use Rattle.relate.specs.Reports.{LineOf, PrintedLaw, word_in}
use Rattle.search.specs.declared.relation.Relation.{Relation}
use Rattle.search.specs.FirstKept.{handed}
use Rattle.search.specs.Relations.{relation_value}

-- What is handed over in two buffers, each time the first word that has a property, is one word.
one_word : (P : List ℕ → Type 0) (long : Option ℕ) (buffer other : List ℕ) →
    ((w : List ℕ) → handed long buffer ≡ Some w → First P w) → ((w : List ℕ) → handed long other ≡ Some w → First P w) → word_in long other ≡ word_in long buffer
one_word P None buffer other f g = refl
one_word P (Some n) buffer other f g = first_one P _ _ (g _ refl) (f _ refl)

module _ (first second out other : List ℕ) where
  one_relation : (r s : Relation) (a b c d : List ℕ) → LineOf first second out r a b → LineOf first second other s c d → s ≡ r
  one_relation r s a b c d h k = cc (h.unrefused, k.unrefused)

  one_line : (r : Relation) (a b c d : List ℕ) → LineOf first second out r a b → LineOf first second other r c d → other ≡ out
  one_line r a b c d h k =
      let u : word_in (relation_value r).only_first c ≡ word_in (relation_value r).only_first a = one_word _ _ a c h.related.related.only_first k.related.related.only_first in
      let v : word_in (relation_value r).only_second d ≡ word_in (relation_value r).only_second b = one_word _ _ b d h.related.related.only_second k.related.related.only_second in
      k.line ∙ rw (u, v) (sym h.line)

pub printed_law : PrintedLaw
printed_law first second out other (inl (f, is, a)) (inl (g, also, b)) = cc
printed_law first second out other (inl (f, is, a)) (inr (s, c, d, k)) = cc k.unrefused
printed_law first second out other (inr (r, a, b, h)) (inl (g, also, e)) = cc h.unrefused
printed_law first second out other (inr (r, a, b, h)) (inr (s, c, d, k)) =
    one_line first second out other r a b c d h (subst (λ (t : Relation). LineOf first second other t c d) (one_relation first second out other r s a b c d h k) k)
