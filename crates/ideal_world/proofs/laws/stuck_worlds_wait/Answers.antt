use Rattle.ideal_world.proofs.RestingActors.{awaits-at-rest}
use Rattle.ideal_world.proofs.Stuck.{only-awaits}
use Rattle.ideal_world.proofs.laws.stuck_worlds_wait.Goals as goal

pub returns-clause-waits : goal.returns-clause-waits
returns-clause-waits c = only-awaits

pub returns-clause-rests : goal.returns-clause-rests
returns-clause-rests c = awaits-at-rest
