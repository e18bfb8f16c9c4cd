-- The sizes of two rules and of their combination.
--   AreSizes    the sizes are those of m and of n, and the combination has k states
use Rattle.std.specs.Prelude.{◌≡◌, ℕ}
use Rattle.automaton.specs.Answers.{size_answer}
use Rattle.automaton.specs.Automata.{Automaton}
use Rattle.combine.specs.declared.sizes.Sizes.{Sizes}

pub record AreSizes (m n : Automaton) (k : ℕ) (s : Sizes) : Type 0 where
  pub first : s.first ≡ size_answer m.count m.letters
  pub second : s.second ≡ size_answer n.count n.letters
  pub states : s.states ≡ k
