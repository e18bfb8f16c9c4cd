use Rattle.std.proofs.Common.{rules}
use Rattle.register.proofs.Walk.{walk_ends}
use Rattle.register.proofs.classes.relabel.Goals as goal

pub returns-clause-relabelled : goal.returns-clause-relabelled
returns-clause-relabelled c = search (rules, walk_ends)
