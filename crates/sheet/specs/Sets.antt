-- Sets of own states as numbers. A set of the own states below n is written in n bits, of which the first, the most significant
-- one, stands for own state 0: it is 1 if own state 0 is in the set.
--   has     whether own state p is in the set s
--   union   the union of the sets f p of those members p of s that are below k
use Rattle.std.specs.Prelude.{ℕ, zero, suc, ◌-◌, ◌/◌, ◌%◌, ◌^◌, Bool, cond, ◌==◌, bit_or}

unfoldable pub has : ℕ → ℕ → ℕ → Bool
has n s p = s / 2 ^ (n - 1 - p) % 2 == 1

unfoldable pub union : ℕ → ℕ → (ℕ → ℕ) → ℕ → ℕ
union n s f zero = 0
union n s f (suc k) = bit_or (union n s f k) (cond (has n s k) (f k) 0)
