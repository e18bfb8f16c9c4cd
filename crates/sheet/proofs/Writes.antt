-- A field of a window that is written anew.
use Rattle.std.proofs.Common.{◌≡◌, ℕ, ◌+◌, ◌-◌, ◌*◌, ◌/◌, ◌%◌, ◌^◌, ◌<◌, ◌≤◌, ◌⊎◌, zero, suc, List, length, get_or, set, mod-lt, add_comm, arith, pow_pos, pow-add, shl_lt, shl_exact, shr-shr}
use lib.Bits.{bit_and, bit_or, or_shifted, and_mask}
use lib.Pow.{high, low, split}
use Rattle.std.proofs.lemmas.Grind.{common_steps}
use Rattle.std.proofs.lemmas.Nat.{one_shl}
use Rattle.std.proofs.lemmas.List.{get_or_past}
use Rattle.sheet.specs.Bits.{bit, field, window}
use Rattle.sheet.proofs.Windows.{bits_field, byte_bit, low_bit, window_bit}

-- the number n whose w bits above the lowest s are replaced by v
pub changed : ℕ → ℕ → ℕ → ℕ → ℕ
changed n s w v = (n / 2 ^ (s + w) * 2 ^ w + v) * 2 ^ s + n % 2 ^ s

module _ (n s w v : ℕ) (hv : v < 2 ^ w) where
  low_lt : n % 2 ^ s < 2 ^ s
  low_lt = mod-lt n (pow_pos s)

  top : changed n s w v / 2 ^ s ≡ n / 2 ^ (s + w) * 2 ^ w + v
  unfolding changed
  top = high (n / 2 ^ (s + w) * 2 ^ w + v) s low_lt

  changed_field : changed n s w v / 2 ^ s % 2 ^ w ≡ v
  changed_field = grind (arith, common_steps, top, low (n / 2 ^ (s + w)) w hv)

  -- every bit outside of the field is as it was
  changed_bit : (e : ℕ) → (e < s) ⊎ (s + w ≤ e) → changed n s w v / 2 ^ e % 2 ≡ n / 2 ^ e % 2
  unfolding changed
  changed_bit e o =
      let d = e - (s + w) in
      let m = changed n s w v in
      grind (arith, common_steps, low_bit m n e s, low (n / 2 ^ (s + w) * 2 ^ w + v) s low_lt, top, high (n / 2 ^ (s + w)) w hv, shr-shr m s w, shr-shr m (s + w) d, shr-shr n (s + w) d)

  -- what the shifts, the mask and the ors give
  pub changed_or : n < 2 ^ 24 → s + w ≤ 24
      → bit_or (bit_or ((n / 2 ^ (s + w) * 2 ^ (s + w)) % 4294967296) ((v * 2 ^ s) % 4294967296)) (bit_and n ((1 * 2 ^ s) % 4294967296 - 1)) ≡ changed n s w v
  unfolding changed
  changed_or hn hs =
      let h = n / 2 ^ (s + w) in
      let a : (h * 2 ^ (s + w)) % 4294967296 ≡ h * 2 ^ (s + w) = omega (arith, split n (s + w)) in
      let b : v * 2 ^ s < 2 ^ (s + w) = rw (add_comm s w) (shl_lt w s hv) in
      let d : h * 2 ^ (s + w) + v * 2 ^ s ≡ (h * 2 ^ w + v) * 2 ^ s = rw (pow-add 2 s w) (omega arith) in
      rw (a, shl_exact w s 32 hv (omega arith), one_shl s 32 (omega arith), and_mask n s, or_shifted h (s + w) (v * 2 ^ s) b, d, or_shifted (h * 2 ^ w + v) s (n % 2 ^ s) low_lt)

-- the bytes when the three from q on write m
unfoldable pub put_all : List ℕ → ℕ → ℕ → List ℕ
put_all bs q m = set (set (set bs q (m / 65536 % 256)) (q + 1) (m / 256 % 256)) (q + 2) (m % 256)

-- each of the three that is there
put_at : (bs : List ℕ) (q m d : ℕ) → d < 3 → q + d < length bs → get_or (put_all bs q m) (q + d) 0 ≡ m / 2 ^ (8 * (2 - d)) % 256
unfolding put_all
put_at bs q m zero h l = grind (arith, common_steps)
put_at bs q m (suc zero) h l = grind (arith, common_steps)
put_at bs q m (suc (suc zero)) h l = grind (arith, common_steps)
put_at bs q m (suc (suc (suc d))) h l = absurd (omega arith)

-- a bit of any other byte, and one past the end, is as it was
put_far : (bs : List ℕ) (q m j : ℕ) → (j / 8 < q) ⊎ (q + 2 < j / 8) ⊎ (length bs ≤ j / 8) → bit (put_all bs q m) j ≡ bit bs j
unfolding bit put_all
put_far bs q m j o = grind (arith, common_steps, get_or_past)

-- a bit of the three bytes
put_bit : (bs : List ℕ) (q m j e : ℕ) → q ≤ j / 8 → j / 8 < length bs → j + e ≡ 8 * q + 23 → bit (put_all bs q m) j ≡ m / 2 ^ e % 2
put_bit bs q m j e h l sum =
    let d = j / 8 - q in
    grind (arith, common_steps, byte_bit (put_all bs q m) q d m j e, put_at bs q m d)

module _ (bs : List ℕ) (i w v : ℕ) (bytes : (k : ℕ) → get_or bs k 0 < 256) (hv : v < 2 ^ w) (fits : i + w ≤ 8 * length bs) (few : w ≤ 16)
    (after : List ℕ) (made : after ≡ put_all bs (i / 8) (changed (window bs (i / 8)) (24 - i % 8 - w) w v)) where
  pub put_field : field after i w ≡ v
  put_field =
      let s = 24 - i % 8 - w in
      let m = changed (window bs (i / 8)) s w v in
      let all = bits_field (put_all bs (i / 8) m) i m w s (λ k e l p. put_bit bs (i / 8) m (i + k) e (omega arith) (omega arith) (omega arith)) in
      rw (made, all, changed_field (window bs (i / 8)) s w v hv)

  pub put_others : (j : ℕ) → (j < i) ⊎ (i + w ≤ j) → bit after j ≡ bit bs j
  put_others j o =
      let s = 24 - i % 8 - w in
      let m = changed (window bs (i / 8)) s w v in
      let e = 8 * (i / 8) + 23 - j in
      rw made (grind (arith, common_steps, put_far bs (i / 8) m j, put_bit bs (i / 8) m j e, window_bit bs bytes (i / 8) j e, changed_bit (window bs (i / 8)) s w v hv e))
