use Rattle.register.proofs.Standing.{smallest_law}
use Rattle.register.proofs.laws.smallest_law.Goals as goal

pub returns : goal.returns
returns c = smallest_law
