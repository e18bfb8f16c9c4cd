-- The numbers of pairs of states, row by row.
use Rattle.std.proofs.Common.{◌≡◌, ◌∙◌, ℕ, ◌+◌, ◌*◌, ◌/◌, ◌%◌, ◌<◌, ◌≤◌, List, arith, slice_index, sym}
use Rattle.std.proofs.lemmas.Nat.{mul-add-lt}
use Rattle.automaton.specs.Answers.{HoldsRow}
use Rattle.automaton.specs.Automata.{Automaton, Lawful}
use Rattle.combine.specs.Combined.{product}

-- the number of a pair of states, raised, is no more than 16 bits hold
pair_raised : (m n r x y : ℕ) → x < m → y < n → r + m * n ≤ 4096 → (x * n % 65536 + (r + y)) % 65536 ≡ r + (x * n + y)
pair_raised m n r x y hx hy few = let below = mul-add-lt x n y m hx hy in omega (arith, below)

-- Two automata with the same letters. The pairs of a row of the one and a raised row of the other, place by place, are a raised row of their product.
pub pairs_row : (m n : Automaton) → Lawful m → Lawful n → m.letters ≡ n.letters → (s p q r w : ℕ) (first second row : List ℕ) → p ≡ s / n.count → q ≡ s % n.count → w ≡ n.count → p < m.count → q < n.count →
    r + m.count * n.count ≤ 4096 → HoldsRow m.letters m.next p 0 first → HoldsRow n.letters n.next q r second →
    ((a : ℕ) → a < 16 → slice_index row a ≡ (slice_index first a * w % 65536 + slice_index second a) % 65536) → HoldsRow m.letters (product m n).next s r row
pairs_row m n lm ln same s p q r w first second row at_p at_q wide hp hq few f g e a h =
    let k : a < n.letters = omega (arith, h, same) in
    let place : a < 16 = omega (arith, h, lm.few_letters) in
    let plain : slice_index first a ≡ m.next p a = omega (arith, f a h) in
    let raised : slice_index row a ≡ r + (m.next p a * n.count + n.next q a) =
    e a place ∙ rw (plain, g a k, wide) (pair_raised m.count n.count r (m.next p a) (n.next q a) (lm.stays p a hp h) (ln.stays q a hq k) few) in
    rw (sym at_p, sym at_q) raised
