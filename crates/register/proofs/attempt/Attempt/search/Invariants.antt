use Rattle.std.proofs.Common.{◌≡◌, ◌-◌, None}
use Rattle.explore.specs.Search.{taken}
use Rattle.explore.specs.Underway.{progress}
use Rattle.register.specs.Attempts.{Goes, Stands, kind_of}
use Rattle.register.proofs.attempt.Attempt.search.Given as goal

abbrev pub invariant-loop-at : goal.invariant-loop-at
invariant-loop-at g l = record {
  stands : Stands g.R.Rule l.self g.before l.queue;
  goes : Goes l.initial.self l.self l.initial.queue l.queue;
  so_far : taken (kind_of g.R.Rule l.initial.self g.before) (g.R.Rule.letters l.initial.self.rule.now) (progress l.initial.queue None) l.queue.taken ≡ progress l.queue None;
}

abbrev pub decreases-loop-at : goal.decreases-loop-at
decreases-loop-at g l = g.R.Rule.count l.initial.self.rule.now - l.queue.taken

abbrev pub ghost-spread : goal.ghost-spread
ghost-spread g a = g.before
