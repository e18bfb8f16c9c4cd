-- Laws of sets of own states as numbers: members, unions and what two sets have in common.
use Rattle.std.proofs.Common.{◌≡◌, ℕ, zero, suc, ◌-◌, ◌/◌, ◌%◌, ◌^◌, ◌<◌, ◌≢◌, Bool, true, false, ◌&&◌, ◌||◌, eqb, ◌⊎◌, List, [], ◌∷◌, ◌++◌, ◌+◌, cond, ap, ◌∙◌, refl, inl, inr, div-one, arith, shr-shr}
use lib.Bits.{bit_and, bit_or, and_mod, and_shr, or_mod, or_shr}
use Rattle.std.proofs.lemmas.Grind.{common_steps}
use Rattle.std.proofs.lemmas.Bool.{cases_eq}
use Rattle.std.proofs.lemmas.List.Sums.{fold-append}
use Rattle.std.specs.List.{fold, range_with_len}
use Rattle.sheet.specs.Sets.{has, union}

-- the numbers from a on, one more of them
range_more : (a n : ℕ) → range_with_len a (suc n) ≡ range_with_len a n ++ (a + n) ∷ []
range_more a zero = let e : a ≡ a + 0 = omega arith in ap (λ (x : ℕ). x ∷ []) e
range_more a (suc n) = let e : a + 1 + n ≡ a + suc n = omega arith in ap (λ (l : List ℕ). a ∷ l) (range_more (a + 1) n ∙ ap (λ (x : ℕ). range_with_len (a + 1) n ++ x ∷ []) e)

-- a union is what adding one own state after another gives
pub fold_union : (n s : ℕ) (f : ℕ → ℕ) (k : ℕ) → fold (λ all p. bit_or all (cond (has n s p) (f p) 0)) 0 (range_with_len 0 k) ≡ union n s f k
unfolding union
fold_union n s f zero = refl
fold_union n s f (suc k) =
    let step : ℕ → ℕ → ℕ = λ all p. bit_or all (cond (has n s p) (f p) 0) in
    let e : 0 + k ≡ k = omega arith in
    ap (fold step 0) (range_more 0 k) ∙ fold-append step 0 (range_with_len 0 k) ((0 + k) ∷ []) ∙ ap (λ (x : ℕ). step (fold step 0 (range_with_len 0 k)) x) e ∙ ap (λ (x : ℕ). step x k) (fold_union n s f k)

-- a member of a union, and of what two sets have in common
or_one : (a b : ℕ) → a < 2 → b < 2 → eqb (bit_or a b) 1 ≡ (eqb a 1 || eqb b 1)
or_one a b h k = grind (arith, common_steps)

has_or : (n x y p : ℕ) → has n (bit_or x y) p ≡ (has n x p || has n y p)
unfolding has
has_or n x y p = grind (arith, common_steps, or_one, or_shr x y (n - 1 - p), or_mod (x / 2 ^ (n - 1 - p)) (y / 2 ^ (n - 1 - p)) 1)

pub has_and : (n x y p : ℕ) → has n (bit_and x y) p ≡ (has n x p && has n y p)
unfolding has
has_and n x y p = grind (arith, common_steps, and_shr x y (n - 1 - p), and_mod (x / 2 ^ (n - 1 - p)) (y / 2 ^ (n - 1 - p)) 1)

-- the empty set has no member
pub has_none : (n p : ℕ) → has n 0 p ≡ false
unfolding has
has_none n p = grind (arith, common_steps)

-- the last own state has the lowest bit, and the others are those of half the number
pub has_last : (n x : ℕ) → has (suc n) x n ≡ eqb (x % 2) 1
unfolding has
has_last n x = grind (arith, common_steps, div-one)

pub has_half : (n x p : ℕ) → p < n → has (suc n) x p ≡ has n (x / 2) p
unfolding has
has_half n x p l = grind (arith, common_steps, shr-shr x 1 (n - 1 - p))

-- any other set has a member
pub some_member : (n x : ℕ) → x < 2 ^ n → x ≢ 0 → (p : ℕ) × (p < n) × (has n x p ≡ true)
some_member zero x l d = absurd (omega arith)
some_member (suc n) x l d = go (cases_eq (x % 2) 1) (λ e. some_member n (x / 2) (omega arith) (omega arith))
  where
    go : (x % 2 ≡ 1) ⊎ (x % 2 ≢ 1) → (x % 2 ≢ 1 → (p : ℕ) × (p < n) × (has n (x / 2) p ≡ true)) → (p : ℕ) × (p < suc n) × (has (suc n) x p ≡ true)
    go (inl e) rest = (n, omega arith, grind (arith, common_steps, has_last))
    go (inr e) rest = let r = rest e in (r.0, omega (arith, r.1), grind (arith, common_steps, r.2, has_half n x r.0 r.1))

-- q is in a union exactly if it is in the set of some member
pub record Joined (n s : ℕ) (f : ℕ → ℕ) (q k p : ℕ) : Type 0 where
  pub below : p < k
  pub member : has n s p ≡ true
  pub its : has n (f p) q ≡ true

module _ (n s : ℕ) (f : ℕ → ℕ) (q : ℕ) where
  pub union_to : (k : ℕ) → has n (union n s f k) q ≡ true → (p : ℕ) × Joined n s f q k p
  unfolding union
  union_to zero h = grind (arith, common_steps, has_none)
  union_to (suc k) h = go (has n (union n s f k) q) refl (union_to k)
    where
      go : (b : Bool) → has n (union n s f k) q ≡ b → (has n (union n s f k) q ≡ true → (p : ℕ) × Joined n s f q k p) → (p : ℕ) × Joined n s f q (suc k) p
      go true e rest = let r = rest e in (r.0, record { below = omega (arith, r.1.below); member = r.1.member; its = r.1.its })
      go false e rest = (k, grind (arith, common_steps, has_or, has_none))

  pub union_from : (k p : ℕ) → Joined n s f q k p → has n (union n s f k) q ≡ true
  unfolding union
  union_from zero p j = absurd (omega (arith, j.below))
  union_from (suc k) p j = grind (arith, common_steps, has_or, union_from k p)
