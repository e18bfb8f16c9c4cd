-- The first number that passes a test.
--   or_at   what was found, or else n if the test passes there
--   first   the first number below n that passes
use Rattle.std.specs.Prelude.{ℕ, zero, suc, Bool, true, false, Some, None, Option}

abbrev pub or_at : Option ℕ → Bool → ℕ → Option ℕ
or_at (Some i) b n = Some i
or_at None true n = Some n
or_at None false n = None

unfoldable pub first : (ℕ → Bool) → ℕ → Option ℕ
first f zero = None
first f (suc n) = or_at (first f n) (f n) n
