use Rattle.ideal_wire.proofs.Tags.MachineOpens.{opens-in-machine}
use Rattle.ideal_wire.proofs.Tags.MachineTurns.{turn-keeps}
use Rattle.ideal_wire.proofs.laws.steps_stay_in_machine.Goals as goal

pub returns-clause-opens : goal.returns-clause-opens
returns-clause-opens c = opens-in-machine

pub returns-clause-stays : goal.returns-clause-stays
returns-clause-stays c = λ l s r m new. turn-keeps l m s r new
