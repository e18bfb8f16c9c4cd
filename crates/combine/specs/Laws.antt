-- What combined rules keep, in terms of the words that their parts keep and drop.
--   Fit            rules of k and of l letters fit in a combination of so many states: k and l are equal, and the states are at most
--                  4,096
--   TooMany        k and l are equal, and the states are more than that
--   Fitted         the promise of the fit question: the answer is the defined one; yes exactly if they fit; a refusal for the
--                  letters exactly if these differ; and a refusal for the states exactly if it is these alone that do not fit
--   FitPairs       two automata fit in their intersection, and so in their difference
--   FitSum         two automata fit in their disjoint union
--   Complements    c is the complement of m: it keeps what m drops and drops what m keeps
--   Paired         the states of c are the pairs of those of m and n, numbered row by row; it starts at the two starts, a step is a
--                  step in each, and a pair is kept if both of its states are
--   Intersects     c is the intersection of m and n: where they fit it has their pairs of states and keeps exactly the words that
--                  both keep, and else it is the blank automaton
--   Subtracts      c is the difference of m and n: where they fit it keeps exactly the words that m keeps and n drops, and else it is
--                  the blank automaton
--   begun_at       the same automaton, begun at another state; the words of a state are those that it keeps when begun there
--   Beside         c has the states of m, and after them those of n; it starts as m does; and each state has the words that it has in
--                  its own automaton
--   Unites         c is the disjoint union of m and n: where they fit it has their states beside each other and keeps exactly the words
--                  that m keeps, and else it is the blank automaton
use Rattle.std.specs.Prelude.{◌≡◌, ℕ, ◌+◌, ◌*◌, ◌<◌, ◌≤◌, ◌&&◌, ◌↔◌, List, Ok, Err, Result, ◌≢◌}
use Rattle.automaton.specs.declared.fault.Fault.{Fault}
use Rattle.automaton.specs.Automata.{Automaton, automaton, blank}
use Rattle.automaton.specs.Languages.{Drops, Keeps}
use Rattle.combine.specs.Combined.{complement, difference, disjoint_union, fit_answer, intersection, letters_differ, most_states, pairs, sum, too_many_states}

pub record Fit (k l states : ℕ) : Type 0 where
  pub same : k ≡ l
  pub few : states ≤ most_states

pub record TooMany (k l states : ℕ) : Type 0 where
  pub same : k ≡ l
  pub many : most_states < states

pub record Fitted (k l states : ℕ) (r : Result (Unit {0}) Fault) : Type 0 where
  pub answer : r ≡ fit_answer k l states tt
  pub yes : (r ≡ Ok tt) ↔ Fit k l states
  pub differ : (r ≡ Err letters_differ) ↔ (k ≢ l)
  pub too_many : (r ≡ Err too_many_states) ↔ TooMany k l states

abbrev pub FitPairs : Automaton → Automaton → Type 0
FitPairs m n = Fit m.letters n.letters (pairs m n)

abbrev pub FitSum : Automaton → Automaton → Type 0
FitSum m n = Fit m.letters n.letters (sum m n)

pub record Complements (m c : Automaton) : Type 0 where
  pub means : c ≡ complement m
  pub keeps : (w : List ℕ) → Keeps c w ↔ Drops m w
  pub drops : (w : List ℕ) → Drops c w ↔ Keeps m w

pub record Paired (m n c : Automaton) : Type 0 where
  pub count : c.count ≡ m.count * n.count
  pub letters : c.letters ≡ m.letters
  pub start : c.start ≡ m.start * n.count + n.start
  pub kept : (p q : ℕ) → q < n.count → c.kept (p * n.count + q) ≡ (m.kept p && n.kept q)
  pub next : (p q a : ℕ) → q < n.count → c.next (p * n.count + q) a ≡ m.next p a * n.count + n.next q a

pub record Intersects (m n c : Automaton) : Type 0 where
  pub means : c ≡ intersection m n
  pub paired : FitPairs m n → Paired m n c
  pub keeps : FitPairs m n → (w : List ℕ) → Keeps c w ↔ (Keeps m w × Keeps n w)
  pub misfit : (FitPairs m n → ⊥) → c ≡ blank

pub record Subtracts (m n c : Automaton) : Type 0 where
  pub means : c ≡ difference m n
  pub keeps : FitPairs m n → (w : List ℕ) → Keeps c w ↔ (Keeps m w × Drops n w)
  pub misfit : (FitPairs m n → ⊥) → c ≡ blank

abbrev pub begun_at : ℕ → Automaton → Automaton
begun_at p m = automaton m.count m.letters p m.kept m.next

pub record Beside (m n c : Automaton) : Type 0 where
  pub count : c.count ≡ m.count + n.count
  pub letters : c.letters ≡ m.letters
  pub start : c.start ≡ m.start
  pub first : (p : ℕ) → p < m.count → (w : List ℕ) → Keeps (begun_at p c) w ↔ Keeps (begun_at p m) w
  pub second : (q : ℕ) → q < n.count → (w : List ℕ) → Keeps (begun_at (m.count + q) c) w ↔ Keeps (begun_at q n) w

pub record Unites (m n c : Automaton) : Type 0 where
  pub means : c ≡ disjoint_union m n
  pub beside : FitSum m n → Beside m n c
  pub keeps : FitSum m n → (w : List ℕ) → Keeps c w ↔ Keeps m w
  pub misfit : (FitSum m n → ⊥) → c ≡ blank
