use Rattle.std.proofs.Common.{arith, sym}
use Rattle.register.proofs.compare.try_out.Goals as goal

pub put_back-requires : goal.put_back-requires
put_back-requires g c =
    let states = c.attempt-tried.ensures.states in
    (omega (arith, c.requires.within), (c.requires.within, (omega (arith, states, c.requires.states, c.requires.enough), (c.args.classes.now, sym states, c.save.ensures))))
