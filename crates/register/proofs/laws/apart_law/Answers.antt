use Rattle.register.proofs.Standing.{apart_law}
use Rattle.register.proofs.laws.apart_law.Goals as goal

pub returns : goal.returns
returns c = apart_law
