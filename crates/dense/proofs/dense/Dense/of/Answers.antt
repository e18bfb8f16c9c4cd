use Rattle.std.proofs.Common.{rules}
use Rattle.automaton.specs.Meanings.{meaning}
use Rattle.dense.proofs.Listing.{same_answers, same_lawful}
use Rattle.dense.proofs.Words.{same_words}
use Rattle.dense.proofs.dense.Dense.of.Goals as goal

pub invariant_of-result-clause-lawful : goal.invariant_of-result-clause-lawful
invariant_of-result-clause-lawful g c =
    let m = meaning g.R.Rule c.args.rule.now in
    same_lawful m _ (g.R.Rule.bounds c.args.rule.now)
    (same_answers m _ _ _ _ _ (search rules) (search rules) c.start_state.ensures (search rules) c.in_ok-kept.ensures.listed (search rules) c.in_ok-rows.ensures.listed)

pub returns-clause-answers : goal.returns-clause-answers
returns-clause-answers g c =
    let m = meaning g.R.Rule c.args.rule.now in
    same_answers m _ _ _ _ _ (search rules) (search rules) c.start_state.ensures (search rules) c.in_ok-kept.ensures.listed (search rules) c.in_ok-rows.ensures.listed

pub returns-clause-words : goal.returns-clause-words
returns-clause-words g c =
    let m = meaning g.R.Rule c.args.rule.now in
    same_words m _ (g.R.Rule.bounds c.args.rule.now)
    (same_answers m _ _ _ _ _ (search rules) (search rules) c.start_state.ensures (search rules) c.in_ok-kept.ensures.listed (search rules) c.in_ok-rows.ensures.listed)
