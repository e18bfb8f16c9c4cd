-- State diagrams, as a textbook draws an automaton, deterministic or not, and when one accepts a word. Nothing here knows of
-- a walk.
--   Diagram    the states below `count`, the letters below `letters`, which states are starts, which are kept, and which arrows
--              lead from a state under a letter to a state
--   Run        the states r0 r1 .. rn that a word of n letters labels: r0 is p, rn is q, and an arrow leads from each to the next
--   Leads      some run of the word leads from p to q
--   Accepted   the word is accepted from this start to this kept state: some run of it leads there
--   Accepts    some run of the word leads from a start to a kept state
--   diagram    the diagram of a deterministic automaton: one start, and one arrow from each state under each letter
use Rattle.std.specs.Prelude.{◌≡◌, ℕ, suc, ◌<◌, Bool, true, List, length, ◌==◌, slice_index, slice_index_or}
use Rattle.std.specs.List.{AllByRecursion}
use Rattle.automaton.specs.Automata.{Automaton}

pub record Diagram : Type 0 where
  pub count : ℕ
  pub letters : ℕ
  pub starts : ℕ → Bool
  pub kept : ℕ → Bool
  pub arrow : ℕ → ℕ → ℕ → Bool

pub record Run (d : Diagram) (p : ℕ) (w : List ℕ) (q : ℕ) (states : List ℕ) : Type 0 where
  pub letters : AllByRecursion (λ a. a < d.letters) w
  pub inside : AllByRecursion (λ r. r < d.count) states
  pub long : length states ≡ suc (length w)
  pub first : slice_index_or states 0 0 ≡ p
  pub moves : (i : ℕ) → i < length w → d.arrow (slice_index states i) (slice_index w i) (slice_index states (suc i)) ≡ true
  pub last : slice_index_or states (length w) 0 ≡ q

abbrev pub Leads : Diagram → ℕ → List ℕ → ℕ → Type 0
Leads d p w q = (states : List ℕ) × Run d p w q states

pub record Accepted (d : Diagram) (w : List ℕ) (p q : ℕ) : Type 0 where
  pub starts : d.starts p ≡ true
  pub leads : Leads d p w q
  pub kept : d.kept q ≡ true

abbrev pub Accepts : Diagram → List ℕ → Type 0
Accepts d w = (p q : ℕ) × Accepted d w p q

abbrev pub diagram : Automaton → Diagram
diagram m = record {
  count = m.count;
  letters = m.letters;
  starts = λ p. (p == m.start);
  kept = m.kept;
  arrow = λ p a q. (q == m.next p a);
}
