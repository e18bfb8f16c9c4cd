use Rattle.std.proofs.Common.{◌∙◌, sym}
use Rattle.automaton.specs.Automata.{Automaton}
use Rattle.automaton.specs.Meanings.{meaning}
use Rattle.search.proofs.FirstKept.{answered_further, ended_there, lent}
use Rattle.search.proofs.first_kept.find.Goals as goal

pub hand_over-requires-clause-there : goal.hand_over-requires-clause-there
hand_over-requires-clause-there g c =
    let m : Automaton = meaning g.R.Rule c.args.rule.now in
    rw (c.hunt-hunted.ensures.ended, lent m c.args.cells.now c.hunt-hunted.new.cells c.hunt-hunted.result.noted c.hunt-hunted.ensures.cells c.hunt-hunted.ensures.noted) (ended_there m)

pub returns-clause-answer : goal.returns-clause-answer
returns-clause-answer g c =
    let m : Automaton = meaning g.R.Rule c.args.rule.now in
    answered_further m (sym (rw c.start_state.ensures at c.is_kept.ensures) ∙ c.if-is_kept.false) _ _ _ _ (lent m c.args.cells.now c.hunt-hunted.new.cells c.hunt-hunted.result.noted c.hunt-hunted.ensures.cells c.hunt-hunted.ensures.noted)
    c.hunt-hunted.ensures.noted c.hunt-hunted.ensures.ended c.hand_over.ensures.length
