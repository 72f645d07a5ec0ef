use Rattle.ideal_lane.proofs.Firsts.{first-candidate, first-allowed, first-least}
use Rattle.ideal_lane.proofs.laws.ring_steps_use_the_first.Goals as goal

pub returns-clause-candidate : goal.returns-clause-candidate
returns-clause-candidate c = first-candidate

pub returns-clause-allowed : goal.returns-clause-allowed
returns-clause-allowed c = first-allowed

pub returns-clause-least : goal.returns-clause-least
returns-clause-least c = first-least
