-- A comparing under way: an attempt, which has the rule, and the classes with the noted pairs joined, which are lent; and the queue of those pairs. `before` are the labels
-- as they were before the comparing.
--   rule_in          the automaton that its rule means
--   kind_of          the search that it makes: over pairs of states, and over what was joined before
--   no_cell          stands for a cell that is not there
--   searched_pairs   how far such a search comes: until it has ended, or no cell is left
--   searched_by      the same for a rule, over what is joined in some classes
--   found_by         what the search over pairs gives, for a rule and over what is joined in some classes
--   next_cell        the cell of the pair that a cell's pair leads to under a letter
--   Stands           the noted pairs and no others are joined since, and their states are there; each has made one class fewer; and there are as many cells as
--                    states, so that there is always room; the classes are of as many states as the rule
--   Left             the classes that are left after a comparing: after "same" they have the joins of the noted pairs, and after "differ" they are as they were
--   Goes             it has gone on: the same rule, the same classes lent, and the queue has gone on
use Rattle.std.specs.Prelude.{◌≡◌, ℕ, ◌+◌, ◌≤◌, Bool, List, length}
use Rattle.automaton.specs.declared.rule.Rule.{Ghosts}
use Rattle.automaton.specs.Automata.{Automaton}
use Rattle.automaton.specs.Meanings.{meaning}
use Rattle.explore.specs.declared.pair_cell.PairCell.{PairCell}
use Rattle.explore.specs.declared.queue.Queue.{Queue}
use Rattle.explore.specs.Queues.{further_cells, noted_cells}
use Rattle.explore.specs.Search.{Kind, Progress, Searched, begun, taken}
use Rattle.explore.specs.Underway.{Grown}
use Rattle.register.specs.declared.attempt.Attempt.{Attempt}
use Rattle.register.specs.declared.classes.Classes.{Classes}
use Rattle.register.specs.declared.verdict.Verdict.{Verdict}
use Rattle.register.specs.declared.verdict.Verdict.TheVariants.{Same, Differ}
use Rattle.register.specs.Calls.{found}
use Rattle.register.specs.Labels.{same}
use Rattle.register.specs.Pairs.{CellsBelow, joins, kept_alike, pairs}
use Rattle.register.specs.Relations.{Agree, classes}

abbrev pub no_cell : PairCell
no_cell = record { first = 0; second = 0; origin = 0; letter = 0 }

abbrev pub searched_pairs : Automaton → (ℕ → ℕ → Bool) → ℕ → ℕ → Progress PairCell
searched_pairs m J p q = taken (pairs m (kept_alike m) J) m.letters (begun (pairs m (kept_alike m) J) (p, q)) m.count

abbrev pub searched_by : {R : Type 0} → Ghosts R → R → Classes → ℕ → ℕ → Progress PairCell
searched_by g rule classes p q = searched_pairs (meaning g rule) (same classes.labels) p q

abbrev pub found_by : {R : Type 0} → Ghosts R → R → Classes → ℕ → ℕ → Searched PairCell
found_by g rule classes p q = found (meaning g rule) (same classes.labels) p q

abbrev pub next_cell : Automaton → PairCell → ℕ → ℕ → PairCell
next_cell m c i a = record { first = m.next c.first a; second = m.next c.second a; origin = i; letter = a }

abbrev pub Left : ℕ → Classes → List PairCell → Verdict → Classes → Type 0
Left n old noted (Same joined) new = Agree n (same new.labels) (joins (same old.labels) noted)
Left n old noted (Differ long keeper tried) new = new ≡ old

pub record Goes {R : Type 0} (old new : Attempt R) (before after : Queue PairCell) : Type 0 where
  pub rule : new.rule ≡ old.rule
  pub lent : new.classes.ghost_name ≡ old.classes.ghost_name
  pub grown : Grown before after

module _ {R : Type 0} (g : Ghosts R) where
  abbrev pub rule_in : Attempt R → Automaton
  rule_in a = meaning g a.rule.now

  abbrev pub kind_of : Attempt R → List ℕ → Kind
  kind_of a before = pairs (rule_in a) (kept_alike (rule_in a)) (same before)

  pub record Stands (a : Attempt R) (before : List ℕ) (q : Queue PairCell) : Type 0 where
    pub states : a.classes.now.states ≡ (rule_in a).count
    pub joined : Agree 4096 (same a.classes.now.labels) (joins (same before) (noted_cells q))
    pub inside : CellsBelow (rule_in a).count (noted_cells q)
    pub fewer : length (noted_cells q) + classes (same a.classes.now.labels) (rule_in a).count ≤ (rule_in a).count
    pub room : (rule_in a).count ≤ length (noted_cells q) + length (further_cells q)
