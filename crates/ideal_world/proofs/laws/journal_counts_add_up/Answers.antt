use Rattle.ideal_world.proofs.Counts.{legal-add-up}
use Rattle.ideal_world.proofs.laws.journal_counts_add_up.Goals as goal

pub returns : goal.returns
returns c = legal-add-up
