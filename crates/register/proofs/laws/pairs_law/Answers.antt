use Rattle.register.proofs.Pairs.{pairs_law}
use Rattle.register.proofs.laws.pairs_law.Goals as goal

pub returns : goal.returns
returns c = pairs_law
