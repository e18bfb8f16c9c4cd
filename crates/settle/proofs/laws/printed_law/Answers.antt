use Rattle.settle.proofs.Once.{printed_law}
use Rattle.settle.proofs.laws.printed_law.Goals as goal

pub returns : goal.returns
returns c = printed_law
