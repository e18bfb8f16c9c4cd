use Rattle.std.proofs.Common.{◌≤◌, ◌<◌, length, arith, ◌∙◌, ap, None, List, sym}
use Rattle.std.proofs.lemmas.Option.{slice_get_within}
use Rattle.explore.specs.declared.pair_cell.PairCell.{PairCell}
use Rattle.explore.specs.Queues.{noted_cells}
use Rattle.explore.proofs.Steps.{taken_none}
use Rattle.register.specs.Attempts.{kind_of}
use Rattle.explore.proofs.Underway.{handed_out, none_out, taken_done, taken_more, taken_out}
use Rattle.register.proofs.Attempts.{cell_below, few_noted, few_taken, goes_taken, goes_then, goes_yet, spread_on, stands_taken}
use Rattle.register.proofs.attempt.Attempt.search.Goals as goal

pub loop-at-init : goal.loop-at-init
loop-at-init g c = record { stands = c.requires.1.0; goes = goes_yet c.args.self.now c.args.queue.now; so_far = rw c.requires.1.1 (taken_none (kind_of g.R.Rule c.args.self.now g.before) _ _) }

pub spread-requires : goal.spread-requires
spread-requires g c =
    let h = handed_out _ _ _ _ _ c.take.ensures.answer c.in-Some.is in
    let there : c.loop-at.queue.taken < length (noted_cells c.loop-at.queue) = slice_get_within _ _ _ h.1 in
    let cells = cell_below _ _ _ _ c.loop-at.invariant.stands.inside h.1 in
    let few : g.R.Rule.count c.loop-at.self.rule.now ≤ 4096 = (g.R.Rule.bounds c.loop-at.self.rule.now).few_states in
    let stands = stands_taken g.R.Rule c.loop-at.self g.before c.loop-at.queue c.take.new.self c.loop-at.invariant.stands c.take.ensures.noted c.take.ensures.further in
    λ κs within. (within, (stands, (omega (arith, h.0, there, c.loop-at.invariant.stands.fewer, few), cells)))

pub returns-in-Some-spread-clause-goes : goal.returns-in-Some-spread-clause-goes
returns-in-Some-spread-clause-goes g c =
    goes_then c.args.self.now c.loop-at.self c.spread.new.self c.args.queue.now c.take.new.self c.spread.new.queue
    (goes_taken c.args.self.now c.loop-at.self c.args.queue.now c.loop-at.queue c.take.new.self c.loop-at.invariant.goes c.take.ensures.same_reference c.take.ensures.noted c.take.ensures.further)
    c.spread.ensures.goes

pub returns-in-Some-spread-clause-taken : goal.returns-in-Some-spread-clause-taken
returns-in-Some-spread-clause-taken g c =
    let h = handed_out _ _ _ _ _ c.take.ensures.answer c.in-Some.is in
    let e = h.0 in
    rw e (taken_out (kind_of g.R.Rule c.args.self.now g.before) _ c.args.queue.now c.loop-at.queue c.take.new.self c.spread.new.queue c.loop-at.queue.taken _ c.in-Some.cell c.in-Some-spread.letter
    c.loop-at.invariant.so_far h.1 c.take.ensures.noted
    (spread_on g.R.Rule c.args.self.now c.loop-at.self g.before c.args.queue.now c.loop-at.queue c.take.new.self c.spread.new.queue c.in-Some.cell _ _ c.loop-at.invariant.goes
    (rw (c.in-Some-spread.is, e) at c.spread.ensures.spread))
    (few_noted g.R.Rule c.args.self.now c.loop-at.self g.before c.args.queue.now c.loop-at.queue c.loop-at.invariant.goes c.loop-at.invariant.stands))

pub loop-at-preserved : goal.loop-at-preserved
loop-at-preserved g c =
    let h = handed_out _ _ _ _ _ c.take.ensures.answer c.in-Some.is in
    let e = h.0 in
    record {
      stands = c.spread.ensures.stands;
      goes = goes_then c.args.self.now c.loop-at.self c.spread.new.self c.args.queue.now c.take.new.self c.spread.new.queue
          (goes_taken c.args.self.now c.loop-at.self c.args.queue.now c.loop-at.queue c.take.new.self c.loop-at.invariant.goes c.take.ensures.same_reference c.take.ensures.noted c.take.ensures.further)
          c.spread.ensures.goes;
      so_far = rw (c.spread.ensures.taken, c.take.ensures.taken, c.in-Some.is)
          (taken_more (kind_of g.R.Rule c.args.self.now g.before) _ c.args.queue.now c.loop-at.queue c.take.new.self c.spread.new.queue c.loop-at.queue.taken c.in-Some.cell None
          c.loop-at.invariant.so_far h.1 c.take.ensures.noted
          (spread_on g.R.Rule c.args.self.now c.loop-at.self g.before c.args.queue.now c.loop-at.queue c.take.new.self c.spread.new.queue c.in-Some.cell _ _ c.loop-at.invariant.goes
          (rw (c.in_default-spread.is, e) at c.spread.ensures.spread)));
    }

pub returns-clause-taken : goal.returns-clause-taken
returns-clause-taken g c =
    taken_done (kind_of g.R.Rule c.args.self.now g.before) _ c.args.queue.now c.loop-at.queue c.loop-at.queue.taken _ c.loop-at.invariant.so_far (none_out _ _ _ c.take.ensures.answer c.in_default.is)
    (few_taken g.R.Rule c.args.self.now c.loop-at.self g.before c.args.queue.now c.loop-at.queue c.loop-at.invariant.goes c.loop-at.invariant.stands)
    ∙ ap (λ (cells : List PairCell). record { noted = cells; ended = None }) (sym c.take.ensures.noted)
