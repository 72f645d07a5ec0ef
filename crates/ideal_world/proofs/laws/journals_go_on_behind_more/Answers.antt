use Rattle.ideal_world.proofs.Longer.{journals-longer, journals-shorter}
use Rattle.ideal_world.proofs.laws.journals_go_on_behind_more.Goals as goal

pub returns-clause-longer : goal.returns-clause-longer
returns-clause-longer c = λ s more. journals-longer more s

pub returns-clause-shorter : goal.returns-clause-shorter
returns-clause-shorter c = λ s more entries end. journals-shorter more s entries end
