use Rattle.explore.proofs.States.{states_law}
use Rattle.explore.proofs.laws.states_law.Goals as goal

pub returns : goal.returns
returns c = states_law
