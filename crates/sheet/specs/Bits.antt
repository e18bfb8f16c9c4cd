-- Fields of bits across bytes, the most significant bit first and without gaps. Past the last byte every bit is 0.
--   bit            the bit at a position: the byte i / 8 has the bits from 8 * (i / 8) on, its most significant one first
--   field          the number that the w bits from position i on write
--   three          the number that three bytes write, the first the highest
--   window         the number that the three bytes from the byte q on write
--   bytes_from     the number that so many bytes from the byte q on write
--   ten            a field of ten bits: the one at place i of those that stand one behind the other from position at on
--   lane           a lane of a number, sixteen bits wide; lane 0 is the lowest
--   truncated      the refusal of a field that ends past the last byte
--   field_answer   what reading a field answers
--   write_answer   what writing a field answers
--   Written        the promise of writing a field: the answer is the defined one; then the field holds the value's lowest w bits,
--                  and every other bit is as before; a refusal leaves every byte
use Rattle.std.specs.Prelude.{◌≡◌, ℕ, zero, suc, ◌+◌, ◌-◌, ◌*◌, ◌/◌, ◌%◌, ◌^◌, ◌<◌, ◌≤◌, cond, ◌⊎◌, List, length, Ok, Err, Result, nat_le, slice_index}
use Rattle.automaton.specs.declared.fault.Fault.{Fault}
use Rattle.automaton.specs.declared.kind.FaultKind.TheVariants.{Truncated}
use Rattle.automaton.specs.declared.layer.Layer.TheVariants.{Sheet}
use Rattle.automaton.specs.Faults.{refusal}

unfoldable pub bit : List ℕ → ℕ → ℕ
bit bs i = slice_index bs (i / 8) / 2 ^ (7 - i % 8) % 2

unfoldable pub field : List ℕ → ℕ → ℕ → ℕ
field bs i zero = 0
field bs i (suc w) = field bs i w * 2 + bit bs (i + w)

abbrev pub three : ℕ → ℕ → ℕ → ℕ
three b0 b1 b2 = b0 * 65536 + b1 * 256 + b2

abbrev pub window : List ℕ → ℕ → ℕ
window bs q = three (slice_index bs q) (slice_index bs (q + 1)) (slice_index bs (q + 2))

unfoldable pub bytes_from : List ℕ → ℕ → ℕ → ℕ
bytes_from bs q zero = 0
bytes_from bs q (suc n) = bytes_from bs q n * 256 + slice_index bs (q + n)

abbrev pub ten : List ℕ → ℕ → ℕ → ℕ
ten bs at i = field bs (at + 10 * i) 10

abbrev pub lane : ℕ → ℕ → ℕ
lane n j = n / 2 ^ (16 * j) % 65536

abbrev pub truncated : Fault
truncated = refusal Truncated Sheet

abbrev pub field_answer : List ℕ → ℕ → ℕ → Result ℕ Fault
field_answer bs i w = cond (nat_le (i + w) (8 * length bs)) (Ok (field bs i w)) (Err truncated)

abbrev pub write_answer : List ℕ → ℕ → ℕ → Result (Unit {0}) Fault
write_answer bs i w = cond (nat_le (i + w) (8 * length bs)) (Ok tt) (Err truncated)

pub record Written (before : List ℕ) (i w value : ℕ) (after : List ℕ) (r : Result (Unit {0}) Fault) : Type 0 where
  pub answer : r ≡ write_answer before i w
  pub holds : r ≡ Ok tt → field after i w ≡ value % 2 ^ w
  pub others : (j : ℕ) → (j < i) ⊎ (i + w ≤ j) → bit after j ≡ bit before j
  pub refused : (f : Fault) → r ≡ Err f → after ≡ before
