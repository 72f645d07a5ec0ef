use Rattle.ideal_world.proofs.Falling.{step-falls, step-rests}
use Rattle.ideal_world.proofs.laws.each_step_falls.Goals as goal

pub returns-clause-falls : goal.returns-clause-falls
returns-clause-falls c = step-falls

pub returns-clause-rests : goal.returns-clause-rests
returns-clause-rests c = step-rests
