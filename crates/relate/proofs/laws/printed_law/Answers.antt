use Rattle.relate.proofs.Once.{printed_law}
use Rattle.relate.proofs.laws.printed_law.Goals as goal

pub returns : goal.returns
returns c = printed_law
