-- Bounds of what a sheet writes down.
--   bit_lt           a bit is 0 or 1
--   field_lt         a field of w bits is below 2 ^ w
--   bit_nil          with no bytes every bit is 0
--   field_nil        with no bytes every field is 0
--   union_lt         a union of sets below 2 ^ w is below 2 ^ w
--   tabled_lawful    the automaton of a table sheet keeps to the bounds if every next state is there
--   counted_sets     with a sheet the rule of sets has a state for each set
--   setwise_lawful   the rule of sets keeps to the bounds if there are at most 10 own states
use Rattle.std.specs.Prelude.{◌≡◌, ℕ, zero, suc, ◌+◌, ◌^◌, ◌<◌, ◌≤◌, List, [], ◌∷◌, length, refl}
use Rattle.std.proofs.Common.{arith, pow_mono, pow_pos}
use Rattle.std.proofs.lemmas.Nat.{or_lt}
use Rattle.std.proofs.lemmas.Grind.{common_steps}
use Rattle.automaton.specs.Automata.{Lawful}
use Rattle.sheet.specs.Bits.{bit, field}
use Rattle.sheet.specs.Layout.{Closed, tabled}
use Rattle.sheet.specs.NfaLayout.{followed, next_set, own_count, set_count, setwise}
use Rattle.sheet.specs.Sets.{union}

pub bit_lt : (bs : List ℕ) (i : ℕ) → bit bs i < 2
unfolding bit
bit_lt bs i = omega arith

pub field_lt : (bs : List ℕ) (i w : ℕ) → field bs i w < 2 ^ w
unfolding field
field_lt bs i zero = omega arith
field_lt bs i (suc w) = omega (arith, field_lt bs i w, bit_lt bs (i + w))

pub bit_nil : (i : ℕ) → bit [] i ≡ 0
unfolding bit
bit_nil i = grind (arith, common_steps)

pub field_nil : (i w : ℕ) → field [] i w ≡ 0
unfolding field
field_nil i zero = refl
field_nil i (suc w) = grind (arith, field_nil i w, bit_nil)

pub union_lt : (n s : ℕ) (f : ℕ → ℕ) (w : ℕ) → ((p : ℕ) → f p < 2 ^ w) → (k : ℕ) → union n s f k < 2 ^ w
unfolding union
union_lt n s f w h zero = pow_pos w
union_lt n s f w h (suc k) = grind (arith, common_steps, union_lt n s f w h k, pow_pos w, or_lt w)

pub tabled_lawful : (bs : List ℕ) → Closed bs → Lawful (tabled bs)
tabled_lawful bs closed = grind (arith, common_steps, field_lt)

pub counted_sets : (bs : List ℕ) → 1 ≤ length bs → set_count bs ≡ 2 ^ own_count bs
counted_sets bs h = grind (arith, common_steps)

pub setwise_lawful : (bs : List ℕ) → own_count bs ≤ 10 → Lawful (setwise bs)
setwise_lawful [] few =
    let none : (s a : ℕ) → followed [] s a < 1 = λ s a. union_lt (own_count []) s (λ p. next_set [] p a) 0 (λ p. grind (arith, field_nil)) (own_count []) in
    grind (arith, common_steps, field_lt, field_nil, none)
setwise_lawful (x ∷ xs) few =
    grind (arith, common_steps, field_lt, pow_pos (own_count (x ∷ xs)), pow_mono few, union_lt)
