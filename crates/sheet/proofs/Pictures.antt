-- The rule of a sheet is the subset construction of the automaton that the sheet pictures: a bit of a field is a member of the
-- set that the field writes.
use Rattle.std.proofs.Common.{◌≡◌, ℕ, zero, suc, ◌+◌, ◌<◌, ◌≤◌, true, eqb, List, length, refl, arith}
use lib.Bits.{bit_and, and_le_r}
use Rattle.std.proofs.lemmas.Grind.{common_steps}
use Rattle.sheet.specs.Bits.{bit, field}
use Rattle.sheet.specs.Bounds.{bit_lt, counted_sets, field_lt}
use Rattle.sheet.specs.NfaLayout.{followed, kept_set, meets, next_set, own_count, pictured, setwise}
use Rattle.sheet.specs.Sets.{has}
use Rattle.sheet.specs.Subsets.{Follows, KeptMember, Subsets}
use Rattle.sheet.proofs.Sets.{has_and, has_half, has_last, has_none, some_member, union_from, union_to}

-- a bit of a field
has_field : (bs : List ℕ) (i n p : ℕ) → p < n → has n (field bs i n) p ≡ eqb (bit bs (i + p)) 1
unfolding field
has_field bs i zero p l = absurd (omega arith)
has_field bs i (suc n) p l = grind (arith, common_steps, has_last, has_half, has_field bs i n p, bit_lt bs (i + n))

module _ (bs : List ℕ) where
  -- a set that meets the kept set has a kept member
  meets_to : (s : ℕ) → meets bs s ≡ true → (p : ℕ) × KeptMember (pictured bs) s p
  meets_to s h =
      let n : ℕ = own_count bs in
      let x : ℕ = bit_and s (kept_set bs) in
      let r = some_member n x (omega (arith, and_le_r s (kept_set bs), field_lt bs (8 + n) n)) (grind (arith, common_steps)) in
      (r.0, grind (arith, common_steps, r.1, r.2, has_and, has_field))

  meets_from : (s : ℕ) → (p : ℕ) × KeptMember (pictured bs) s p → meets bs s ≡ true
  meets_from s (p, k) = grind (arith, common_steps, has_and (own_count bs) s (kept_set bs) p, has_none (own_count bs) p, has_field bs (8 + own_count bs) (own_count bs) p)

  -- the next set has those to which an arrow leads from a member
  followed_to : (s a q : ℕ) → q < own_count bs → has (own_count bs) (followed bs s a) q ≡ true → (p : ℕ) × Follows (pictured bs) s a q p
  followed_to s a q l h =
      let u = union_to (own_count bs) s (λ p. next_set bs p a) q (own_count bs) h in
      (u.0, grind (arith, common_steps, u.1, has_field))

  followed_from : (s a q : ℕ) → q < own_count bs → (p : ℕ) × Follows (pictured bs) s a q p → has (own_count bs) (followed bs s a) q ≡ true
  followed_from s a q l (p, f) = grind (arith, common_steps, has_field, union_from (own_count bs) s (λ p. next_set bs p a) q (own_count bs) p)

  pub setwise_subsets : 1 ≤ length bs → Subsets (pictured bs) (setwise bs)
  setwise_subsets h = record {
    count = counted_sets bs h;
    letters = refl;
    start = has_field bs 8 (own_count bs);
    kept = λ s. (meets_to s, meets_from s);
    next = λ s a q l. (followed_to s a q l, followed_from s a q l);
  }
