-- The states that are not there, from n on: what is known of them stays, and so the first entries of a table tell all of it.
use Rattle.std.proofs.Common.{refl, subst, true, replicate, ◌==◌, ◌≡◌, ℕ, ◌+◌, ◌<◌, ◌≤◌, List, ◌++◌, drop, get_or, length, length-drop, take, sym, ap, ◌∙◌, arith}
use Rattle.std.proofs.lemmas.Grind.{elements, same_number_lists}
use Rattle.std.proofs.lemmas.List.{get_or-drop, take-append-drop}
use Rattle.std.proofs.lemmas.Bool.Decides.{nat_tests}
use Rattle.register.specs.Labels.{same}
use Rattle.register.specs.Relations.{Agree}
use Rattle.register.specs.Rings.{Added, IsTable, Numbered, NumberedFrom, OnesFrom, Relabelled, Renumbered, Spliced, StaysBelow}
use Rattle.register.proofs.Sizes.{sized_numbered}

-- Where the further states have their own numbers, all have after the first ones are numbered.
pub renumbered : (old new : List ℕ) (n : ℕ) → NumberedFrom n old → Renumbered old new n → Numbered new
renumbered old new n further h u hu =
    let e = h u hu in
    let f : n ≤ u → get_or old u 0 ≡ u = λ from. further u from hu in
    grind (arith, nat_tests)

pub numbered_all : (old new : List ℕ) → Renumbered old new 4096 → Numbered new
numbered_all old new h u hu = let e = h u hu in grind (arith, nat_tests)

-- What is numbered throughout is apart.
pub numbered_apart : (l : List ℕ) → Numbered l → Agree 4096 (same l) (λ u v. u == v)
numbered_apart l h u v hu hv = rw (h u hu, h v hv) refl

-- Likewise with ones.
pub ones_all : (n : ℕ) (old new : List ℕ) → n ≤ 4096 → length old ≡ 4096 → OnesFrom n old → new ≡ replicate n 1 ++ drop n old → OnesFrom 0 new
ones_all n old new few long further e u _ hu =
    let f : n ≤ u → get_or old u 0 ≡ 1 = λ from. further u from hu in
    rw e (grind (arith, elements))

-- A table in which all entries are numbers of their own and ones.
pub fresh : (n : ℕ) (labels gap ring second_gap sizes : List ℕ) → n ≤ 4096 → length labels ≡ 4096 → length ring ≡ 4096 → length sizes ≡ 4096 → gap ≡ replicate 32 0 → second_gap ≡ replicate 32 0 →
    Numbered labels → Numbered ring → OnesFrom 0 sizes → IsTable n labels gap ring second_gap sizes
fresh n labels gap ring second_gap sizes few long ring_long sizes_long gap_zero second_gap_zero l r o = record {
  labels_long = long;
  ring_long = ring_long;
  sizes_long = sizes_long;
  few = few;
  gap_zero = gap_zero;
  second_gap_zero = second_gap_zero;
  labels_inside = λ u h. rw (l u h) h;
  ring_inside = λ u h. rw (r u h) h;
  keeps = λ u h. rw (r u h) refl;
  round = λ w.
      let e : w.first ≡ w.other = sym (l w.first w.first_below) ∙ w.one_class ∙ l w.other w.other_below in
      subst (λ v. w.holds v ≡ true) e w.begins;
  sized = sized_numbered labels sizes long l o;
  labels_below = λ u h. rw (l u (omega (arith, few))) h;
  labels_from = λ u _ h. l u h;
  ring_from = λ u _ h. r u h;
  sizes_from = λ u _ h. o u (omega arith) h;
}

module _ (n : ℕ) (few : n ≤ 4096) where
  pub below_relabelled : (l m : List ℕ) (p q : ℕ) → p < n → q < n → StaysBelow n l → Relabelled l m p (get_or l q 0) → StaysBelow n m
  below_relabelled l m p q hp hq below moved u hu =
      let e = moved u (omega (arith, few)) in
      let a = below q hq in
      let b = below u hu in
      grind (arith, nat_tests)

  pub from_relabelled : (l m : List ℕ) (p to : ℕ) → p < n → StaysBelow n l → NumberedFrom n l → Relabelled l m p to → NumberedFrom n m
  from_relabelled l m p to hp below further moved u from hu =
      let e = moved u hu in
      let a = below p hp in
      let b = further u from hu in
      grind (arith, nat_tests)

  pub from_spliced : (s r : List ℕ) (p q : ℕ) → p < n → q < n → NumberedFrom n s → Spliced s r p q → NumberedFrom n r
  from_spliced s r p q hp hq further x u from hu =
      let e = x u hu in
      let b = further u from hu in
      grind (arith, nat_tests)

  pub ones_added : (sizes sums : List ℕ) (label other : ℕ) → label < n → OnesFrom n sizes → Added sizes sums label other → OnesFrom n sums
  ones_added sizes sums label other h further more u from hu =
      let e = more u hu in
      let b = further u from hu in
      grind (arith, nat_tests)

-- Tables of 4,096 that are the same from k on are the same after the first k entries of the one are put into the other.
put_first : (k : ℕ) (l now saved : List ℕ) → length l ≡ 4096 → length now ≡ 4096 → ((u : ℕ) → k ≤ u → u < 4096 → get_or now u 0 ≡ get_or l u 0) → saved ≡ take k l → saved ++ drop k now ≡ l
put_first k l now saved long long_now same e = rw e (ap (λ rest. take k l ++ rest) rest ∙ take-append-drop k l)
  where
    rest : drop k now ≡ drop k l
    rest = same_number_lists (drop k now) (drop k l) (omega (arith, length-drop k now, length-drop k l, long, long_now))
        (λ i h. get_or-drop k now i 0 ∙ same (k + i) (omega arith) (omega (arith, length-drop k now, long_now)) ∙ sym (get_or-drop k l i 0))

-- So it is where both have their own numbers from n on, or ones.
module _ (n k : ℕ) (h : n ≤ k) (l now saved new : List ℕ) (long : length l ≡ 4096) (long_now : length now ≡ 4096) where
  pub numbers_put_back : NumberedFrom n l → NumberedFrom n now → saved ≡ take k l → new ≡ saved ++ drop k now → new ≡ l
  numbers_put_back a b e is = is ∙ put_first k l now saved long long_now (λ u from hu. b u (omega (arith, h)) hu ∙ sym (a u (omega (arith, h)) hu)) e

  pub ones_put_back : OnesFrom n l → OnesFrom n now → saved ≡ take k l → new ≡ saved ++ drop k now → new ≡ l
  ones_put_back a b e is = is ∙ put_first k l now saved long long_now (λ u from hu. b u (omega (arith, h)) hu ∙ sym (a u (omega (arith, h)) hu)) e
