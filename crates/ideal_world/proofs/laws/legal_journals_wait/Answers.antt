use Rattle.ideal_world.proofs.Legal.{legal-waits}
use Rattle.ideal_world.proofs.laws.legal_journals_wait.Goals as goal

pub returns : goal.returns
returns c = legal-waits
