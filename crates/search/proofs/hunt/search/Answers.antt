use Rattle.std.proofs.Common.{◌∙◌, ap, None, List, sym}
use Rattle.automaton.specs.Meanings.{meaning}
use Rattle.explore.specs.declared.step_cell.StepCell.{StepCell}
use Rattle.explore.proofs.Steps.{taken_none}
use Rattle.explore.proofs.Underway.{grown_taken, grown_then, grown_yet, handed_out, none_out, taken_done, taken_more, taken_out}
use Rattle.search.specs.Hunts.{kept_states}
use Rattle.search.proofs.Hunts.{cell_below, few_noted, few_taken}
use Rattle.search.proofs.hunt.search.Goals as goal

pub loop-at-init : goal.loop-at-init
loop-at-init g c = record {
  stands = c.requires.stands;
  grown = grown_yet c.args.queue.now;
  so_far = rw c.requires.none_taken (taken_none (kept_states (meaning g.R.Rule c.args.rule.now)) _ _);
}

pub spread-requires-clause-there : goal.spread-requires-clause-there
spread-requires-clause-there g c =
    let h = handed_out _ _ _ _ _ c.take.ensures.answer c.in-Some.is in
    cell_below _ _ _ _ c.loop-at.invariant.stands.inside h.1

pub returns-in-Some-spread-clause-grown : goal.returns-in-Some-spread-clause-grown
returns-in-Some-spread-clause-grown g c =
    grown_then c.args.queue.now c.take.new.self c.spread.new.queue
    (grown_taken c.args.queue.now c.loop-at.queue c.take.new.self c.loop-at.invariant.grown c.take.ensures.same_reference c.take.ensures.noted c.take.ensures.further) c.spread.ensures.grown

pub returns-in-Some-spread-clause-taken : goal.returns-in-Some-spread-clause-taken
returns-in-Some-spread-clause-taken g c =
    let h = handed_out _ _ _ _ _ c.take.ensures.answer c.in-Some.is in
    let e = h.0 in
    rw e (taken_out (kept_states (meaning g.R.Rule c.args.rule.now)) _ c.args.queue.now c.loop-at.queue c.take.new.self c.spread.new.queue c.loop-at.queue.taken _ c.in-Some.cell
    c.in-Some-spread.letter c.loop-at.invariant.so_far h.1 c.take.ensures.noted (rw (c.in-Some-spread.is, e) at c.spread.ensures.spread)
    (few_noted _ c.loop-at.seen c.loop-at.queue c.loop-at.invariant.stands))

pub loop-at-preserved : goal.loop-at-preserved
loop-at-preserved g c =
    let h = handed_out _ _ _ _ _ c.take.ensures.answer c.in-Some.is in
    let e = h.0 in
    record {
      stands = c.spread.ensures.stands;
      grown = grown_then c.args.queue.now c.take.new.self c.spread.new.queue
          (grown_taken c.args.queue.now c.loop-at.queue c.take.new.self c.loop-at.invariant.grown c.take.ensures.same_reference c.take.ensures.noted c.take.ensures.further)
          c.spread.ensures.grown;
      so_far = rw (c.spread.ensures.taken, c.take.ensures.taken, c.in-Some.is)
          (taken_more (kept_states (meaning g.R.Rule c.args.rule.now)) _ c.args.queue.now c.loop-at.queue c.take.new.self c.spread.new.queue c.loop-at.queue.taken c.in-Some.cell None
          c.loop-at.invariant.so_far h.1 c.take.ensures.noted (rw (c.in_default-spread.is, e) at c.spread.ensures.spread));
    }

pub returns-clause-taken : goal.returns-clause-taken
returns-clause-taken g c =
    taken_done (kept_states (meaning g.R.Rule c.args.rule.now)) _ c.args.queue.now c.loop-at.queue c.loop-at.queue.taken _ c.loop-at.invariant.so_far
    (none_out _ _ _ c.take.ensures.answer c.in_default.is) (few_taken _ c.loop-at.seen c.loop-at.queue c.loop-at.invariant.stands)
    ∙ ap (λ (cells : List StepCell). record { noted = cells; ended = None }) (sym c.take.ensures.noted)
