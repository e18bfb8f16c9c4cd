-- A field of bits is a quotient and a remainder of the number that three bytes write.
use Rattle.std.proofs.Common.{◌≡◌, ℕ, zero, suc, ◌+◌, ◌-◌, ◌*◌, ◌/◌, ◌%◌, ◌^◌, ◌<◌, ◌≤◌, List, get_or, sym, arith, shr-shr, mod-lt, pow_mono, pow_pos}
use native.Mathlib.Nat.{mod-one}
use lib.Bits.{bit_and, bit_or, or_shifted, and_mask}
use lib.Pow.{mod-pow-add, mod-mod-pow, field as shr_field}
use Rattle.std.proofs.lemmas.Grind.{common_steps}
use Rattle.std.proofs.lemmas.Nat.{one_shl}
use Rattle.sheet.specs.Bits.{bit, field, three, window}

-- what the shifts and the ors of three bytes give
pub three_or : (b0 b1 b2 : ℕ) → b0 < 256 → b1 < 256 → b2 < 256
    → bit_or (bit_or ((b0 * 65536) % 4294967296) ((b1 * 256) % 4294967296)) b2 ≡ three b0 b1 b2
three_or b0 b1 b2 h0 h1 h2 = grind (arith, common_steps, or_shifted b0 16 (b1 * 256), or_shifted (b0 * 256 + b1) 8 b2)

-- and of a byte below them
pub one_more : (n b : ℕ) → n < 16777216 → b < 256 → bit_or ((n * 256) % 4294967296) b / 256 ≡ n
one_more n b h l = grind (arith, or_shifted n 8 b)

-- a bit below s depends only on the remainder by 2 ^ s
pub low_bit : (m n k s : ℕ) → k < s → m % 2 ^ s ≡ n % 2 ^ s → m / 2 ^ k % 2 ≡ n / 2 ^ k % 2
low_bit m n k s h e =
    let d = s - (1 + k) in
    grind (arith, common_steps, mod-mod-pow m d (1 + k), mod-mod-pow n d (1 + k), shr_field m 1 k, shr_field n 1 k)

-- a bit of a byte that is one of the three of m
pub byte_bit : (bs : List ℕ) (q d m j e : ℕ) → j / 8 ≡ q + d → d < 3 → j + e ≡ 8 * q + 23 → get_or bs (q + d) 0 ≡ m / 2 ^ (8 * (2 - d)) % 256 → bit bs j ≡ m / 2 ^ e % 2
unfolding bit
byte_bit bs q d m j e at few sum byte =
    let n = m / 2 ^ (8 * (2 - d)) in
    grind (arith, common_steps, low_bit (n % 256) n (7 - j % 8) 8, shr-shr m (8 * (2 - d)) (7 - j % 8))

-- a field whose bits are those of m
pub bits_field : (bs : List ℕ) (i m w s : ℕ) → ((k e : ℕ) → k < w → k + e + 1 ≡ s + w → bit bs (i + k) ≡ m / 2 ^ e % 2) → field bs i w ≡ m / 2 ^ s % 2 ^ w
unfolding field
bits_field bs i m zero s h = sym (mod-one (m / 2 ^ s))
bits_field bs i m (suc w) s h =
    let a : field bs i w ≡ m / 2 ^ (s + 1) % 2 ^ w = bits_field bs i m w (s + 1) (λ k e l p. h k e (omega arith) (omega arith)) in
    let b : bit bs (i + w) ≡ m / 2 ^ s % 2 = h w s (omega arith) (omega arith) in
    grind (arith, common_steps, a, b, shr-shr m s 1, mod-pow-add (m / 2 ^ s) w 1)

module _ (bs : List ℕ) (bytes : (k : ℕ) → get_or bs k 0 < 256) where
  -- a byte, a bit and a field of the window's three bytes
  window_byte : (q d : ℕ) → d < 3 → get_or bs (q + d) 0 ≡ window bs q / 2 ^ (8 * (2 - d)) % 256
  window_byte q zero h = grind (arith, common_steps, bytes q, bytes (q + 1), bytes (q + 2))
  window_byte q (suc zero) h = grind (arith, common_steps, bytes q, bytes (q + 1), bytes (q + 2))
  window_byte q (suc (suc zero)) h = grind (arith, common_steps, bytes q, bytes (q + 1), bytes (q + 2))
  window_byte q (suc (suc (suc d))) h = absurd (omega arith)

  pub window_bit : (q j e : ℕ) → 8 * q ≤ j → j + e ≡ 8 * q + 23 → bit bs j ≡ window bs q / 2 ^ e % 2
  window_bit q j e l sum = byte_bit bs q (j / 8 - q) (window bs q) j e (omega arith) (omega arith) sum (window_byte q (j / 8 - q) (omega arith))

  pub window_field : (i w s : ℕ) → i % 8 + w + s ≡ 24 → field bs i w ≡ window bs (i / 8) / 2 ^ s % 2 ^ w
  window_field i w s h = bits_field bs i (window bs (i / 8)) w s (λ k e l p. window_bit (i / 8) (i + k) e (omega arith) (omega arith))

-- what a mask of the lowest w bits gives, and that it fits 16 bits
pub mask_low : (n w : ℕ) → w ≤ 16 → bit_and n ((1 * 2 ^ w) % 4294967296 - 1) ≡ n % 2 ^ w
mask_low n w h = rw (one_shl w 32 (omega arith), and_mask n w)

pub mask_lt : (n w : ℕ) → w ≤ 16 → bit_and n ((1 * 2 ^ w) % 4294967296 - 1) < 65536
mask_lt n w h = omega (arith, mask_low n w h, mod-lt n (pow_pos w), pow_mono h)

-- what a shift and a mask of the window give, where another byte stands below it
pub window_read : (bs : List ℕ) (i w n : ℕ) → n / 2 ^ 8 ≡ window bs (i / 8) → ((k : ℕ) → get_or bs k 0 < 256) → w ≤ 16
    → bit_and (n / 2 ^ (32 - i % 8 - w)) ((1 * 2 ^ w) % 4294967296 - 1) ≡ field bs i w
window_read bs i w n e bytes h =
    let s = 24 - i % 8 - w in
    let below : 32 - i % 8 - w ≡ 8 + s = omega arith in
    rw (mask_low (n / 2 ^ (32 - i % 8 - w)) w h, window_field bs bytes i w s (omega arith), below, sym (shr-shr n 8 s), e)
