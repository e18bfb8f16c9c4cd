-- Every combination keeps to the bounds of a rule.
--   complement_lawful       the complement of an automaton that does
--   product_lawful          the product of two automata over as many letters, if its states are not too many
--   beside_lawful           two such automata beside each other, if the states are not too many
--   fits_then               what holds of a combination that fits, and of the blank automaton, holds of the combination
--   intersection_lawful, disjoint_union_lawful, difference_lawful
--                           these combinations of any two automata that do
use Rattle.std.specs.Prelude.{◌≡◌, ℕ, ◌+◌, ◌*◌, ◌≤◌, cond}
use Rattle.std.proofs.Common.{arith, mul-pos, rules}
use Rattle.std.proofs.lemmas.Grind.{common_steps}
use Rattle.std.proofs.lemmas.Nat.{mul-add-lt, div_below, mod_below}
use Rattle.automaton.specs.Automata.{Automaton, Lawful, blank, blank_lawful}
use Rattle.combine.specs.Combined.{beside, complement, difference, disjoint_union, fit, intersection, product}

pub complement_lawful : (m : Automaton) → Lawful m → Lawful (complement m)
complement_lawful m h = search rules

pub product_lawful : (m n : Automaton) → Lawful m → Lawful n → m.letters ≡ n.letters → m.count * n.count ≤ 4096 → Lawful (product m n)
product_lawful m n h k same few = grind (arith, common_steps, mul-pos, mul-add-lt, div_below, mod_below)

pub beside_lawful : (m n : Automaton) → Lawful m → Lawful n → m.letters ≡ n.letters → m.count + n.count ≤ 4096 → Lawful (beside m n)
beside_lawful m n h k same few = grind (arith, common_steps)

pub fits_then : (P : Automaton → Type 0) (m n : Automaton) (states : ℕ) (c : Automaton) → (m.letters ≡ n.letters → states ≤ 4096 → P c) → P blank → P (cond (fit m.letters n.letters states) c blank)
fits_then P m n states c f e = grind (arith, common_steps)

pub intersection_lawful : (m n : Automaton) → Lawful m → Lawful n → Lawful (intersection m n)
intersection_lawful m n h k = fits_then Lawful m n (m.count * n.count) (product m n) (product_lawful m n h k) blank_lawful

pub disjoint_union_lawful : (m n : Automaton) → Lawful m → Lawful n → Lawful (disjoint_union m n)
disjoint_union_lawful m n h k = fits_then Lawful m n (m.count + n.count) (beside m n) (beside_lawful m n h k) blank_lawful

pub difference_lawful : (m n : Automaton) → Lawful m → Lawful n → Lawful (difference m n)
difference_lawful m n h k = intersection_lawful m (complement n) h (complement_lawful n k)
