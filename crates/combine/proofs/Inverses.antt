-- Multiplying by a rounded inverse divides.
use Rattle.std.proofs.Common.{◌≡◌, ℕ, ◌+◌, ◌-◌, ◌*◌, ◌/◌, ◌%◌, ◌^◌, ◌<◌, ◌≤◌, ap, arith}
use Rattle.std.proofs.Math.Nat.{mul-le-mul, mul-le-mul_left, mul-le-mul_right, div-le_self}
use Rattle.std.proofs.lemmas.Nat.{div-add-mod', div-mul-add, le-div, mod_below}

-- The whole is w, a number s, its divisor n.
module _ (w s n c d p r : ℕ) (whole : c * n + d ≡ w) (number : p * n + r ≡ s) where
  no_less : d < n → p * w ≤ s * (c + 1)
  no_less hd =
      let within : d ≤ n = omega (arith, hd) in
      let below = mul-le-mul_left p within in
      let wholes : p * (c * n + d) ≡ p * w = ap (λ x. p * x) whole in
      let numbers : (p * n + r) * (c + 1) ≡ s * (c + 1) = ap (λ x. x * (c + 1)) number in
      omega (arith, below, wholes, numbers)

  not_next : r < n → s < c → s * (c + 1) < p * w + w
  not_next hr few =
      let within : r + 1 ≤ n = omega (arith, hr) in
      let row = mul-le-mul_right c within in
      let wholes : p * (c * n + d) ≡ p * w = ap (λ x. p * x) whole in
      let numbers : (p * n + r) * (c + 1) ≡ s * (c + 1) = ap (λ x. x * (c + 1)) number in
      omega (arith, row, few, wholes, numbers, whole, number)

quotient : (w x p : ℕ) → p * w ≤ x → x < p * w + w → x / w ≡ p
quotient w x p no_less not_next =
    let e : x ≡ p * w + (x - p * w) = omega (arith, no_less) in
    let rest : x - p * w < w = omega (arith, no_less, not_next) in
    rw e (div-mul-add p w (x - p * w) rest)

-- A number that is no more than the whole has divisors in it is divided by multiplying by the rounded inverse.
divides : (w n s : ℕ) → 0 < n → s < w / n → s * (w / n + 1) / w ≡ s / n
divides w n s some few =
    let whole = div-add-mod' w n in
    let number = div-add-mod' s n in
    quotient w (s * (w / n + 1)) (s / n)
    (no_less w s n (w / n) (w % n) (s / n) (s % n) whole number (mod_below w n some))
    (not_next w s n (w / n) (w % n) (s / n) (s % n) whole number (mod_below s n some) few)

large : (n : ℕ) → 0 < n → n ≤ 4096 → 268435456 ≤ 1099511627776 / n
large n some few = le-div 268435456 1099511627776 n some (omega (arith, few))

pub inverse_divides : (n s : ℕ) → 0 < n → n ≤ 4096 → s < 16777216 → s * (1099511627776 / n + 1) / 1099511627776 ≡ s / n
inverse_divides n s some few small =
    let many = large n some few in
    divides 1099511627776 n s some (omega (arith, many, small))

pub inverse_fits : (n s : ℕ) → s < 16777216 → s * (1099511627776 / n + 1) < 2 ^ 64
inverse_fits n s small =
    let below = div-le_self 1099511627776 n in
    let few : s ≤ 16777215 = omega (arith, small) in
    let above : 1099511627776 / n + 1 ≤ 1099511627777 = omega (arith, below) in
    let most = mul-le-mul few above in
    omega (arith, most)
