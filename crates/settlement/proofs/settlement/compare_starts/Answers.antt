use Rattle.std.proofs.Common.{refl}
use Rattle.automaton.specs.Meanings.{meaning}
use Rattle.settlement.proofs.Judging.{judged}
use Rattle.settlement.proofs.settlement.compare_starts.Goals as goal

pub returns : goal.returns
returns g c =
    let u = c.args.union in
    let a = u.first.rule in
    let b = u.second.rule in
    judged _ _ c.open-register.ensures.law _ _ _ _ _ _ _ _ c.compare.ensures u c.open-register.ensures.rule c.open-register.ensures.apart (meaning g.A.Rule a) (meaning g.B.Rule b) (g.A.Rule.bounds a)
    (g.B.Rule.bounds b) c.requires.fit refl c.starts-first.ensures.first c.starts-first.ensures.second c.requires.room
