use Rattle.std.proofs.Common.{◌≡◌, None}
use Rattle.automaton.specs.Meanings.{meaning}
use Rattle.explore.specs.Search.{spread}
use Rattle.explore.specs.Underway.{Grown, progress}
use Rattle.search.specs.Hunts.{Stands, kept_states}
use Rattle.search.proofs.hunt.spread.Given as goal

abbrev pub invariant-loop-letter : goal.invariant-loop-letter
invariant-loop-letter g l = record {
  stands : Stands (g.R.Rule.count l.rule) l.seen l.queue;
  grown : Grown l.initial.queue l.queue;
  spread : spread (kept_states (meaning g.R.Rule l.rule)) (progress l.initial.queue None) l.cell.state l.at l.letter ≡ progress l.queue None;
  taken : l.queue.taken ≡ l.initial.queue.taken;
}
