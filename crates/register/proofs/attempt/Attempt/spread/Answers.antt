use Rattle.std.proofs.Common.{◌∙◌, ap, None, refl, arith}
use Rattle.automaton.specs.declared.size.Size.{Size}
use Rattle.explore.proofs.Steps.{spread_none}
use Rattle.register.specs.Attempts.{kind_of}
use Rattle.register.proofs.Attempts.{goes_yet, goes_then, spread_next, spread_over}
use Rattle.register.proofs.attempt.Attempt.spread.Goals as goal

pub loop-letter-init : goal.loop-letter-init
loop-letter-init g c = record { stands = c.requires.1.0; goes = goes_yet c.args.self.now c.args.queue.now; spread = spread_none (kind_of g.R.Rule c.args.self.now g.before) _ _ _; taken = refl }

pub returns-then-reach-clause-goes : goal.returns-then-reach-clause-goes
returns-then-reach-clause-goes g c =
    goes_then c.args.self.now c.loop-letter.self c.reach.new.self c.args.queue.now c.loop-letter.queue c.reach.new.queue c.loop-letter.invariant.goes c.reach.ensures.goes

pub returns-then-reach-clause-spread : goal.returns-then-reach-clause-spread
returns-then-reach-clause-spread g c =
    spread_over g.R.Rule c.args.self.now c.loop-letter.self g.before c.args.queue.now c.loop-letter.queue c.reach.new.queue c.args.cell c.pair_in-next.result c.args.at c.loop-letter.letter _
    c.loop-letter.invariant.goes c.loop-letter.invariant.spread c.pair_in-next.ensures (c.reach.ensures.met ∙ rw (c.if-reach.true, c.pair_in-next.ensures) refl)
    (omega (arith, c.loop-letter-test.true, ap (λ (s : Size). s.letters) c.size-letter-end.ensures))

pub loop-letter-preserved : goal.loop-letter-preserved
loop-letter-preserved g c = record {
  stands = c.reach.ensures.stands;
  goes = goes_then c.args.self.now c.loop-letter.self c.reach.new.self c.args.queue.now c.loop-letter.queue c.reach.new.queue c.loop-letter.invariant.goes c.reach.ensures.goes;
  spread = spread_next g.R.Rule c.args.self.now c.loop-letter.self g.before c.args.queue.now c.loop-letter.queue c.reach.new.queue c.args.cell c.pair_in-next.result c.args.at c.loop-letter.letter None
      c.loop-letter.invariant.goes c.loop-letter.invariant.spread c.pair_in-next.ensures (c.reach.ensures.met ∙ rw c.if-reach.false refl);
  taken = c.reach.ensures.taken ∙ c.loop-letter.invariant.taken;
}
