-- Fields in the number that some bytes in a row write.
use Rattle.std.proofs.Common.{◌≡◌, ℕ, zero, suc, ◌+◌, ◌-◌, ◌*◌, ◌/◌, ◌%◌, ◌^◌, ◌<◌, ◌≤◌, List, [], length, drop, get_or, sym, ⊎_elim, ◌∙◌, ap, arith, shr-shr}
use Rattle.std.proofs.lemmas.Bool.{cases_lt}
use Rattle.std.proofs.lemmas.Grind.{common_steps}
use Rattle.std.proofs.lemmas.List.{get_or-drop, get_or-take}
use Rattle.std.specs.List.{slice_range}
use Rattle.std.specs.Simd.{first_chunks}
use Rattle.sheet.specs.Bits.{bit, bytes_from, field}
use Rattle.sheet.proofs.Windows.{bits_field, low_bit}

-- a bit of the last byte, and one of those before it
last_bit : (m b e : ℕ) → b < 256 → e < 8 → (m * 256 + b) / 2 ^ e % 2 ≡ b / 2 ^ e % 2
last_bit m b e h l = low_bit (m * 256 + b) b e 8 l (omega arith)

earlier_bit : (m b e : ℕ) → b < 256 → 8 ≤ e → (m * 256 + b) / 2 ^ e % 2 ≡ m / 2 ^ (e - 8) % 2
earlier_bit m b e h l =
    let d = e - 8 in
    let whole : (m * 256 + b) / 256 ≡ m = omega arith in
    let split : 8 + d ≡ e = omega arith in
    ap (λ (x : ℕ). (m * 256 + b) / 2 ^ x % 2) (sym split) ∙ ap (λ (x : ℕ). x % 2) (sym (shr-shr (m * 256 + b) 8 d)) ∙ ap (λ (x : ℕ). x / 2 ^ d % 2) whole

-- an entry of the eight numbers from q on
pub chunk : (bs : List ℕ) (q i : ℕ) → q + 8 ≤ length bs → i < 8 → get_or (get_or (first_chunks 8 (length (slice_range bs q (q + 8)) / 8) (slice_range bs q (q + 8))) 0 []) i 0 ≡ get_or bs (q + i) 0
chunk bs q i h l =
    let long : length (slice_range bs q (q + 8)) ≡ 8 = grind (arith, common_steps) in
    let one : length (slice_range bs q (q + 8)) / 8 ≡ 1 = omega arith in
    rw one (get_or-take 8 (slice_range bs q (q + 8)) i 0 l ∙ get_or-take (q + 8 - q) (drop q bs) i 0 (omega arith) ∙ get_or-drop q bs i 0)

-- what eight bytes write
pub eight_sum : (bs : List ℕ) (q : ℕ) (f : ℕ → ℕ) → ((i : ℕ) → i < 8 → f i ≡ get_or bs (q + i) 0) →
    f 0 * 72057594037927936 + f 1 * 281474976710656 + f 2 * 1099511627776 + f 3 * 4294967296 + f 4 * 16777216 + f 5 * 65536 + f 6 * 256 + f 7 ≡ bytes_from bs q 8
unfolding bytes_from
eight_sum bs q f h = omega (arith, h 0 (omega arith), h 1 (omega arith), h 2 (omega arith), h 3 (omega arith), h 4 (omega arith), h 5 (omega arith), h 6 (omega arith), h 7 (omega arith))

module _ (bs : List ℕ) (bytes : (k : ℕ) → get_or bs k 0 < 256) where
  -- a bit of the number is the bit that stands there
  pub bytes_bit : (q n j e : ℕ) → 8 * q ≤ j → j + e + 1 ≡ 8 * (q + n) → bit bs j ≡ bytes_from bs q n / 2 ^ e % 2
  unfolding bytes_from bit
  bytes_bit q zero j e l sum = absurd (omega arith)
  bytes_bit q (suc n) j e l sum = ⊎_elim
      (λ h.
      let place : j / 8 ≡ q + n = omega arith in
      let height : 7 - j % 8 ≡ e = omega arith in
      ap (λ (x : ℕ). get_or bs x 0 / 2 ^ (7 - j % 8) % 2) place ∙ ap (λ (x : ℕ). get_or bs (q + n) 0 / 2 ^ x % 2) height ∙ sym (last_bit (bytes_from bs q n) (get_or bs (q + n) 0) e (bytes (q + n)) h))
      (λ h. bytes_bit q n j (e - 8) l (omega arith) ∙ sym (earlier_bit (bytes_from bs q n) (get_or bs (q + n) 0) e (bytes (q + n)) h))
      (cases_lt e 8)

  pub bytes_field : (q n i w s : ℕ) → 8 * q ≤ i → i + w + s ≡ 8 * (q + n) → field bs i w ≡ bytes_from bs q n / 2 ^ s % 2 ^ w
  bytes_field q n i w s l sum = bits_field bs i (bytes_from bs q n) w s (λ k e h p. bytes_bit q n (i + k) e (omega arith) (omega arith))

  pub tens_read : (q at s j m : ℕ) → m ≡ bytes_from bs q 8 → 8 * q ≤ at → s + at ≡ 8 * q + 24 → j < 4 → m / 2 ^ s / 2 ^ (30 - 10 * j) % 1024 ≡ field bs (at + 10 * j) 10
  tens_read q at s j m e before sum h =
      let t = s + (30 - 10 * j) in
      let read : field bs (at + 10 * j) 10 ≡ bytes_from bs q 8 / 2 ^ t % 2 ^ 10 = bytes_field q 8 (at + 10 * j) 10 t (omega arith) (omega arith) in
      ap (λ (x : ℕ). x % 1024) (shr-shr m s (30 - 10 * j)) ∙ ap (λ (x : ℕ). x / 2 ^ t % 1024) e ∙ sym read
