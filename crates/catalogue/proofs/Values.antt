-- The number that digits write.
use Rattle.std.proofs.Common.{◌≡◌, ℕ, ◌+◌, ◌-◌, ◌*◌, ◌<◌, ◌≤◌, true, List, [], ◌∷◌, ◌++◌, map, length, Some, refl, ap, ◌∙◌, subst, lt_of_lt_of_le, arith, Iter, Bor}
use native.Mathlib.Nat.{pow-le-pow_right}
use Rattle.std.proofs.lemmas.Int.Digits.{number_lt, number_push}
use Rattle.std.proofs.lemmas.List.{length-append, length-map, map-append}
use Rattle.std.proofs.lemmas.Bool.Decides.{nat_tests}
use Rattle.std.specs.Int.Digits.{AllBelowBase, number_from_digits, number_from_digits_after}
use Rattle.std.proofs.lemmas.Fn.{fronts}
use Rattle.std.specs.Iterator.{Yields}
use Rattle.std.specs.List.{AllByRecursion, fold}
use Rattle.catalogue.specs.Lines.{digit, value}

pub fold_digits : (n : ℕ) (ds : List ℕ) → fold (λ m b. m * 10 + (b - 48)) n ds ≡ number_from_digits_after 10 n (map (λ b. b - 48) ds)
fold_digits n [] = refl
fold_digits n (d ∷ ds) = fold_digits (n * 10 + (d - 48)) ds

digit_lt : (b : ℕ) → digit b ≡ true → b - 48 < 10
digit_lt b e = grind (arith, nat_tests)

digits_below : (ds : List ℕ) → AllByRecursion (λ b. digit b ≡ true) ds → AllBelowBase 10 (map (λ b. b - 48) ds)
digits_below [] a = tt
digits_below (d ∷ ds) a = (digit_lt d a.0, digits_below ds a.1)

pub value_push : (ds : List ℕ) (b : ℕ) → value (ds ++ b ∷ []) ≡ value ds * 10 + (b - 48)
value_push ds b = ap (number_from_digits 10) (map-append (λ (x : ℕ). x - 48) ds (b ∷ [])) ∙ number_push 10 (map (λ x. x - 48) ds) (b - 48)

value_small : (ds : List ℕ) → length ds ≤ 6 → AllByRecursion (λ b. digit b ≡ true) ds → value ds < 1000000
value_small ds few a =
    let s : length (map (λ b. b - 48) ds) ≤ 6 = omega (arith, length-map ds (λ b. b - 48)) in
    lt_of_lt_of_le (number_lt 10 (map (λ b. b - 48) ds) (digits_below ds a)) (pow-le-pow_right (omega arith) s)

-- what a slice's iterator gave, the item that comes, and what is left
turn : (s t u : Iter ℕ) (xs : List (Bor ℕ)) (x : Bor ℕ) → Yields fronts s xs t → fronts t (Some x) u → s.rest.now ≡ map (λ y. y.now) xs ++ x.now ∷ u.rest.now
turn s t u [] x e f = ap (λ (i : Iter ℕ). i.rest.now) e ∙ f
turn s t u (y ∷ xs) x (j, f, more) g = f ∙ ap (λ (l : List ℕ). y.now ∷ l) (turn j t u xs x more g)

-- the byte that comes is a digit, and the number with it is small
pub record Room (n b : ℕ) : Type 0 where
  pub low : 48 ≤ b
  pub small : n * 10 + (b - 48) < 1000000

split_all : (front rest : List ℕ) (b : ℕ) → AllByRecursion (λ x. digit x ≡ true) (front ++ b ∷ rest) → AllByRecursion (λ x. digit x ≡ true) (front ++ b ∷ []) × (48 ≤ b)
split_all [] rest b a = ((a.0, tt), grind (arith, nat_tests, a.0))
split_all (x ∷ front) rest b a = let on = split_all front rest b a.1 in ((a.0, on.0), on.1)

pub room : (s t u : Iter ℕ) (xs : List (Bor ℕ)) (x : Bor ℕ) → length s.rest.now ≤ 6 → AllByRecursion (λ b. digit b ≡ true) s.rest.now → Yields fronts s xs t → fronts t (Some x) u
    → Room (value (map (λ y. y.now) xs)) x.now
room s t u xs x few a y k =
    let front = map (λ (z : Bor ℕ). z.now) xs in
    let parts : s.rest.now ≡ front ++ x.now ∷ u.rest.now = turn s t u xs x y k in
    let digits = split_all front u.rest.now x.now (subst (AllByRecursion (λ b. digit b ≡ true)) parts a) in
    let short : length (front ++ x.now ∷ []) ≤ 6 = omega (arith, ap length parts, length-append front (x.now ∷ []), length-append front (x.now ∷ u.rest.now)) in
    record { low = digits.1; small = rw (← value_push front x.now) (value_small (front ++ x.now ∷ []) short digits.0) }
