use Rattle.ideal_world.proofs.Few.{bounced-few}
use Rattle.ideal_world.proofs.laws.counts_fit.Goals as goal

pub returns : goal.returns
returns c = bounced-few
