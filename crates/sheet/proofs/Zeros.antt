-- Fields whose bits are all 0, and the blank rule, which is that of no bytes.
use Rattle.std.proofs.Common.{◌≡◌, ℕ, zero, suc, ◌+◌, ◌<◌, ◌≤◌, false, List, [], refl, arith}
use Rattle.std.proofs.lemmas.Grind.{common_steps}
use lib.Bits.{and_zero_r}
use Rattle.automaton.specs.Automata.{blank}
use Rattle.sheet.specs.Bits.{bit, field}
use Rattle.sheet.specs.Bounds.{field_nil, union_lt}
use Rattle.sheet.specs.NfaLayout.{followed, meets, next_set, own_count, setwise}

-- a field is 0 exactly if every bit in it is
pub clear_bits : (bs : List ℕ) (i w : ℕ) → field bs i w ≡ 0 → (j : ℕ) → i ≤ j → j < i + w → bit bs j ≡ 0
unfolding field
clear_bits bs i zero e j l k = absurd (omega arith)
clear_bits bs i (suc w) e j l k = grind (arith, common_steps, clear_bits bs i w)

pub clear_field : (bs : List ℕ) (i w : ℕ) → ((j : ℕ) → i ≤ j → j < i + w → bit bs j ≡ 0) → field bs i w ≡ 0
unfolding field
clear_field bs i zero h = refl
clear_field bs i (suc w) h = grind (arith, common_steps, clear_field bs i w)

-- with no bytes the rule of sets is the blank one
meets_nil : (s : ℕ) → meets [] s ≡ false
meets_nil s = simp (field_nil, and_zero_r)

followed_nil : (s a : ℕ) → followed [] s a ≡ 0
followed_nil s a = grind (arith, common_steps, union_lt (own_count []) s (λ p. next_set [] p a) 0 (λ p. grind (arith, field_nil)) (own_count []))

pub setwise_nil : setwise [] ≡ blank
setwise_nil = grind (arith, common_steps, field_nil, meets_nil, followed_nil)
