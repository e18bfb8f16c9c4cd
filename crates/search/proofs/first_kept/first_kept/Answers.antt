use Rattle.automaton.specs.Meanings.{meaning}
use Rattle.search.proofs.FirstKept.{is_first}
use Rattle.search.proofs.first_kept.first_kept.Goals as goal

pub returns-clause-law : goal.returns-clause-law
returns-clause-law g c =
    is_first (meaning g.R.Rule c.args.rule.now) (g.R.Rule.bounds c.args.rule.now) c.find.result c.args.cells.now c.find.new.cells c.args.word.now c.find.new.word c.find.ensures.answer
    c.find.ensures.cells c.find.ensures.word
