use Rattle.std.proofs.Common.{◌∙◌, ap, None, refl, arith}
use Rattle.automaton.specs.declared.size.Size.{Size}
use Rattle.automaton.specs.Meanings.{meaning}
use Rattle.explore.proofs.Steps.{spread_none}
use Rattle.explore.proofs.Underway.{grown_then, grown_yet, spread_more, spread_out}
use Rattle.search.specs.Hunts.{kept_states}
use Rattle.search.proofs.hunt.spread.Goals as goal

pub loop-letter-init : goal.loop-letter-init
loop-letter-init g c = record { stands = c.requires.stands; grown = grown_yet c.args.queue.now; spread = spread_none (kept_states (meaning g.R.Rule c.args.rule.now)) _ _ _; taken = refl }

pub returns-then-reach-clause-grown : goal.returns-then-reach-clause-grown
returns-then-reach-clause-grown g c = grown_then c.args.queue.now c.loop-letter.queue c.reach.new.queue c.loop-letter.invariant.grown c.reach.ensures.grown

pub returns-then-reach-clause-spread : goal.returns-then-reach-clause-spread
returns-then-reach-clause-spread g c =
    spread_out (kept_states (meaning g.R.Rule c.args.rule.now)) c.args.queue.now c.loop-letter.queue c.reach.new.queue c.args.cell.state c.args.at c.loop-letter.letter _
    c.loop-letter.invariant.spread (rw (c.if-reach.true, c.cell_after-next.ensures) at c.reach.ensures.met)
    (omega (arith, c.loop-letter-test.true, ap (λ (s : Size). s.letters) c.size-letter-end.ensures))

pub loop-letter-preserved : goal.loop-letter-preserved
loop-letter-preserved g c = record {
  stands = c.reach.ensures.stands;
  grown = grown_then c.args.queue.now c.loop-letter.queue c.reach.new.queue c.loop-letter.invariant.grown c.reach.ensures.grown;
  spread = spread_more (kept_states (meaning g.R.Rule c.args.rule.now)) c.args.queue.now c.loop-letter.queue c.reach.new.queue c.args.cell.state c.args.at c.loop-letter.letter None
      c.loop-letter.invariant.spread (rw (c.if-reach.false, c.cell_after-next.ensures) at c.reach.ensures.met);
  taken = c.reach.ensures.taken ∙ c.loop-letter.invariant.taken;
}
