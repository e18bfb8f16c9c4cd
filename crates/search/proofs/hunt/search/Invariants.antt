use Rattle.std.proofs.Common.{◌≡◌, ◌-◌, None}
use Rattle.automaton.specs.Meanings.{meaning}
use Rattle.explore.specs.Search.{taken}
use Rattle.explore.specs.Underway.{Grown, progress}
use Rattle.search.specs.Hunts.{Stands, kept_states}
use Rattle.search.proofs.hunt.search.Given as goal

abbrev pub invariant-loop-at : goal.invariant-loop-at
invariant-loop-at g l = record {
  stands : Stands (g.R.Rule.count l.rule) l.seen l.queue;
  grown : Grown l.initial.queue l.queue;
  so_far : taken (kept_states (meaning g.R.Rule l.rule)) (g.R.Rule.letters l.rule) (progress l.initial.queue None) l.queue.taken ≡ progress l.queue None;
}

abbrev pub decreases-loop-at : goal.decreases-loop-at
decreases-loop-at g l = g.R.Rule.count l.rule - l.queue.taken
