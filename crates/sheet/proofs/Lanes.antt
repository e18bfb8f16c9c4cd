-- Laws of the four lanes of a number.
use Rattle.std.proofs.Common.{◌≡◌, ℕ, zero, suc, ◌+◌, ◌-◌, ◌*◌, ◌/◌, ◌%◌, ◌^◌, ◌<◌, ◌≤◌, sym, ◌∙◌, ap, arith, ⊎_elim, refl, subst, shr-shr}
use lib.Bits.{bit_and, and_mod, and_shr}
use Rattle.std.proofs.lemmas.Bool.{cases_lt}
use Rattle.std.proofs.lemmas.Grind.{common_steps}
use Rattle.sheet.specs.Bits.{lane}

-- what holds of 0, 1, 2 and 3 holds of each number below 4
pub four : (P : ℕ → Type 0) → P 0 → P 1 → P 2 → P 3 → (j : ℕ) → j < 4 → P j
four P a b c d zero l = a
four P a b c d (suc zero) l = b
four P a b c d (suc (suc zero)) l = c
four P a b c d (suc (suc (suc zero))) l = d
four P a b c d (suc (suc (suc (suc j)))) l = absurd (omega arith)

-- what holds of each number below 4 * k, and of the next four, holds of each below 4 * (k + 1)
pub four_more : (P : ℕ → Type 0) (k : ℕ) → ((a : ℕ) → a < 4 * k → P a) → ((j : ℕ) → j < 4 → P (4 * k + j)) → (a : ℕ) → a < 4 * (k + 1) → P a
four_more P k past here a l = ⊎_elim
    (past a)
    (λ h. let e : 4 * k + (a - 4 * k) ≡ a = omega arith in subst P e (here (a - 4 * k) (omega arith)))
    (cases_lt a (4 * k))

-- the lowest forty bits, ten to a lane
pub apart : (t r j : ℕ) → r ≤ 64512 → j < 4
    → lane (t / 1048576 % 1048576 / 1024 + t / 1048576 % 1048576 % 1024 * 65536 + t % 1048576 / 1024 * 4294967296 + t % 1048576 % 1024 * 281474976710656 + r * 281479271743489) j ≡ r + t / 2 ^ (30 - 10 * j) % 1024
apart t r j h = four
    (λ (i : ℕ). lane (t / 1048576 % 1048576 / 1024 + t / 1048576 % 1048576 % 1024 * 65536 + t % 1048576 / 1024 * 4294967296 + t % 1048576 % 1024 * 281474976710656 + r * 281479271743489) i ≡ r + t / 2 ^ (30 - 10 * i) % 1024)
    (omega arith) (omega arith) (omega arith) (omega arith) j

-- lanes after a shift by so many lanes
shifted : (n m j : ℕ) → lane (n / 2 ^ (16 * m)) j ≡ lane n (j + m)
shifted n m j =
    let e : 16 * m + 16 * j ≡ 16 * (j + m) = omega arith in
    ap (λ (x : ℕ). x % 65536) (shr-shr n (16 * m) (16 * j) ∙ ap (λ (x : ℕ). n / 2 ^ x) e)

-- four lanes that hold the same, and none behind them
same : (s j : ℕ) → s ≤ 32768 → j < 4 → lane (s * 281479271743489) j ≡ s
same s j h = four (λ (i : ℕ). lane (s * 281479271743489) i ≡ s) (omega arith) (omega arith) (omega arith) (omega arith) j

beyond : (n j : ℕ) → n < 18446744073709551616 → 4 ≤ j → lane n j ≡ 0
beyond n j h l =
    let e : 64 + 16 * (j - 4) ≡ 16 * j = omega arith in
    let none : n / 2 ^ 64 ≡ 0 = omega arith in
    let gone : n / 2 ^ (16 * j) ≡ 0 / 2 ^ (16 * (j - 4)) = ap (λ (x : ℕ). n / 2 ^ x) (sym e) ∙ sym (shr-shr n 64 (16 * (j - 4))) ∙ ap (λ (x : ℕ). x / 2 ^ (16 * (j - 4))) none in
    grind (arith, common_steps)

pub guarded : (s m j : ℕ) → s ≤ 32768 → j + m < 4 → lane (s * 281479271743489 / 2 ^ (16 * m)) j ≡ s
guarded s m j h l = shifted (s * 281479271743489) m j ∙ same s (j + m) h l

pub guard_low : (s m j : ℕ) → s ≤ 32768 → lane (s * 281479271743489 / 2 ^ (16 * m)) j ≤ 32768
guard_low s m j h = ⊎_elim
    (λ l. omega (arith, guarded s m j h l))
    (λ l. omega (arith, shifted (s * 281479271743489) m j, beyond (s * 281479271743489) (j + m) (omega arith) l))
    (cases_lt (j + m) 4)

-- a number is the sum of its lanes
whole : (n : ℕ) → n < 18446744073709551616 → n ≡ lane n 0 + lane n 1 * 65536 + lane n 2 * 4294967296 + lane n 3 * 281474976710656
whole n h = omega arith

module _ (x g : ℕ) (low : (j : ℕ) → j < 4 → lane x j < 32768) (guard : (j : ℕ) → j < 4 → lane g j ≤ 32768) (hx : x < 18446744073709551616) (hg : g < 18446744073709551616) where
  -- no lane of a sum runs over
  summed : (j : ℕ) → j < 4 → lane (x + g) j ≡ lane x j + lane g j
  summed =
      let x0 : lane x 0 < 32768 = low 0 (omega arith) in
      let x1 : lane x 1 < 32768 = low 1 (omega arith) in
      let x2 : lane x 2 < 32768 = low 2 (omega arith) in
      let x3 : lane x 3 < 32768 = low 3 (omega arith) in
      let g0 : lane g 0 ≤ 32768 = guard 0 (omega arith) in
      let g1 : lane g 1 ≤ 32768 = guard 1 (omega arith) in
      let g2 : lane g 2 ≤ 32768 = guard 2 (omega arith) in
      let g3 : lane g 3 ≤ 32768 = guard 3 (omega arith) in
      four (λ (j : ℕ). lane (x + g) j ≡ lane x j + lane g j) (omega arith) (omega arith) (omega arith) (omega arith)

  pub sum_fits : x + g < 18446744073709551616
  sum_fits = omega (arith, whole x hx, whole g hg, low 0 (omega arith), low 1 (omega arith), low 2 (omega arith), low 3 (omega arith), guard 0 (omega arith), guard 1 (omega arith), guard 2 (omega arith), guard 3 (omega arith))

-- the highest bit of a lane
top_bit : (y m e : ℕ) → bit_and y m ≡ 0 → m / 2 ^ e % 2 ≡ 1 → y / 2 ^ e % 2 ≡ 0
top_bit y m e h one =
    let bits : bit_and (y / 2 ^ e % 2) (m / 2 ^ e % 2) ≡ 0 = grind (arith, common_steps, and_shr y m e, and_mod (y / 2 ^ e) (m / 2 ^ e) 1) in
    let b : bit_and (y / 2 ^ e % 2) 1 ≡ 0 = rw one at bits in
    ⊎_elim (λ l. omega arith) (λ l. let k : y / 2 ^ e % 2 ≡ 1 = omega arith in absurd (omega (arith, rw k at b))) (cases_lt (y / 2 ^ e % 2) 1)

pub lanes_low : (x g j : ℕ) → ((j : ℕ) → j < 4 → lane x j < 32768) → ((j : ℕ) → j < 4 → lane g j ≤ 32768) → x < 18446744073709551616 → g < 18446744073709551616
    → bit_and (x + g) 9223512776490647552 ≡ 0 → j < 4 → lane x j + lane g j < 32768
lanes_low x g j low guard hx hg e l =
    let bit : (x + g) / 2 ^ (16 * j + 15) % 2 ≡ 0 = top_bit (x + g) 9223512776490647552 (16 * j + 15) e (four (λ (i : ℕ). 9223512776490647552 / 2 ^ (16 * i + 15) % 2 ≡ 1) refl refl refl refl j l) in
    let split : (x + g) / 2 ^ (16 * j) / 2 ^ 15 ≡ (x + g) / 2 ^ (16 * j + 15) = shr-shr (x + g) (16 * j) 15 in
    omega (arith, summed x g low guard hx hg j l, bit, split)

-- two fields that gain no eleventh bit
module _ (t n : ℕ) (few : n ≤ 1024) (e : bit_and (t % 1024 + t / 1048576 % 1024 * 1048576 + (1024 - n) * 1048577) 1073742848 ≡ 0) where
  tenth : (t % 1024 + t / 1048576 % 1024 * 1048576 + (1024 - n) * 1048577) / 2 ^ 10 % 2 ≡ 0
  tenth = top_bit (t % 1024 + t / 1048576 % 1024 * 1048576 + (1024 - n) * 1048577) 1073742848 10 e refl

  thirtieth : (t % 1024 + t / 1048576 % 1024 * 1048576 + (1024 - n) * 1048577) / 2 ^ 30 % 2 ≡ 0
  thirtieth = top_bit (t % 1024 + t / 1048576 % 1024 * 1048576 + (1024 - n) * 1048577) 1073742848 30 e refl

  pub pair_low : t % 1024 < n
  pair_low = omega (arith, tenth, few)

  pub pair_high : t / 1048576 % 1024 < n
  pair_high = omega (arith, thirtieth, few)
