-- The subset construction, as a textbook has it, for any diagram and any automaton.
--   KeptMember   own state p is in the set s, and it is kept
--   Follows      own state p is in the set s, and an arrow leads from it under a to q
--   Subsets      the automaton m is the subset construction of the diagram d. Its states are the sets of the states of d, each set a
--                number. The start is the set of the starts; a set is kept exactly if it has a kept member; and q is in the next set
--                exactly if an arrow leads to q from some member
use Rattle.std.specs.Prelude.{◌≡◌, ℕ, ◌^◌, ◌<◌, true, ◌↔◌}
use Rattle.automaton.specs.Automata.{Automaton}
use Rattle.automaton.specs.Diagrams.{Diagram}
use Rattle.sheet.specs.Sets.{has}

pub record KeptMember (d : Diagram) (s p : ℕ) : Type 0 where
  pub own : p < d.count
  pub member : has d.count s p ≡ true
  pub kept : d.kept p ≡ true

pub record Follows (d : Diagram) (s a q p : ℕ) : Type 0 where
  pub own : p < d.count
  pub member : has d.count s p ≡ true
  pub arrow : d.arrow p a q ≡ true

pub record Subsets (d : Diagram) (m : Automaton) : Type 0 where
  pub count : m.count ≡ 2 ^ d.count
  pub letters : m.letters ≡ d.letters
  pub start : (p : ℕ) → p < d.count → has d.count m.start p ≡ d.starts p
  pub kept : (s : ℕ) → (m.kept s ≡ true) ↔ ((p : ℕ) × KeptMember d s p)
  pub next : (s a q : ℕ) → q < d.count → (has d.count (m.next s a) q ≡ true) ↔ ((p : ℕ) × Follows d s a q p)
