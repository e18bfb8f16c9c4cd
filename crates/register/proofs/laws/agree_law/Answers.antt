use Rattle.register.proofs.Standing.{agree_law}
use Rattle.register.proofs.laws.agree_law.Goals as goal

pub returns : goal.returns
returns c = agree_law
