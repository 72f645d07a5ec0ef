use Rattle.ideal_world.proofs.HoldLaws.{holds-lead, holds-sound}
use Rattle.ideal_world.proofs.laws.holds_lead_on.Goals as goal

pub returns-clause-sound : goal.returns-clause-sound
returns-clause-sound c = λ s w actor well. holds-sound s w actor well

pub returns-clause-lead : goal.returns-clause-lead
returns-clause-lead c = λ w actor. holds-lead w actor
