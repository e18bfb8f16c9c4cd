use Rattle.std.proofs.Common.{◌≡◌, None}
use Rattle.explore.specs.Search.{spread}
use Rattle.explore.specs.Underway.{progress}
use Rattle.register.specs.Attempts.{Goes, Stands, kind_of}
use Rattle.register.proofs.attempt.Attempt.spread.Given as goal

abbrev pub invariant-loop-letter : goal.invariant-loop-letter
invariant-loop-letter g l = record {
  stands : Stands g.R.Rule l.self g.before l.queue;
  goes : Goes l.initial.self l.self l.initial.queue l.queue;
  spread : spread (kind_of g.R.Rule l.initial.self g.before) (progress l.initial.queue None) (l.cell.first, l.cell.second) l.at l.letter ≡ progress l.queue None;
  taken : l.queue.taken ≡ l.initial.queue.taken;
}

abbrev pub ghost-reach : goal.ghost-reach
ghost-reach g a = g.before
