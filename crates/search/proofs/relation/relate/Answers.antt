use Rattle.automaton.specs.Meanings.{meaning}
use Rattle.search.proofs.Relations.{relates}
use Rattle.search.proofs.relation.relate.Goals as goal

pub returns-clause-law : goal.returns-clause-law
returns-clause-law g c =
    relates (meaning g.A.Rule c.args.first.now) (meaning g.B.Rule c.args.second.now) _ _ (g.A.Rule.bounds c.args.first.now) (g.B.Rule.bounds c.args.second.now)
    (rw (c.new-only_first.ensures.first, c.new-only_first.ensures.second) at c.fits.ensures.yes.0 c.in_ok-fits.was) c.new-only_first.ensures.law c.new-only_second.ensures.law _ _ _ _ _ _ _ c.find-first_found.ensures.answer c.find-second_found.ensures.answer c.find-first_found.ensures.word
    c.find-second_found.ensures.word c.relation_of.ensures
