-- Laws of the first number below a bound that passes a test.
use Rattle.std.proofs.Common.{◌≡◌, ℕ, zero, suc, ◌<◌, ◌≤◌, MatchOption, Bool, true, false, Some, None, Option, sym, refl, arith}
use Rattle.std.proofs.lemmas.Grind.{common_steps}
use Rattle.sheet.specs.First.{first}

pub record Found (f : ℕ → Bool) (n i : ℕ) : Type 0 where
  pub below : i < n
  pub passes : f i ≡ true
  pub earlier : (j : ℕ) → j < i → f j ≡ false

module _ (f : ℕ → Bool) where
  -- the test passes at i and nowhere before
  pub first_found : (n i : ℕ) → i < n → first f i ≡ None → f i ≡ true → first f n ≡ Some i
  unfolding first
  first_found zero i l e h = grind (arith, common_steps)
  first_found (suc n) i l e h = grind (arith, common_steps, first_found n i)

  pub none_below : (n : ℕ) → first f n ≡ None → (i : ℕ) → i < n → f i ≡ false
  unfolding first
  none_below zero e i l = grind (arith, common_steps)
  none_below (suc n) e i l = grind (arith, common_steps, none_below n)

  -- what is found is below the bound and passes, and nothing before it passes
  pub first_some : (n i : ℕ) → first f n ≡ Some i → Found f n i
  unfolding first
  first_some zero i e = grind (arith, common_steps)
  first_some (suc n) i e = grind (arith, common_steps, first_some n i, none_below n)

  pub none_from : (n : ℕ) → ((i : ℕ) → i < n → f i ≡ false) → first f n ≡ None
  unfolding first
  none_from zero h = refl
  none_from (suc n) h = grind (arith, common_steps, none_from n)

  -- what a search of the numbers below n finds
  pub first_is : (n e : ℕ) (r : Option ℕ) → e ≡ n → MatchOption r ((k : ℕ) → 0 ≤ k → k < e → f k ≡ false) (λ i. (0 ≤ i) × (i < e) × (f i ≡ true) × ((k : ℕ) → 0 ≤ k → k < i → f k ≡ false))
      → r ≡ first f n
  first_is n e None p h = sym (none_from n (λ k l. h k (omega arith) (omega arith)))
  first_is n e (Some i) p h = grind (arith, common_steps, none_from i (λ k l. h.3 k (omega arith) l), first_found n i)
