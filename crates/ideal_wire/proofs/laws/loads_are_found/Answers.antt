use Rattle.ideal_wire.proofs.Devices.MappedTurns.{loads-found, opens-mapped, turn-mapped}
use Rattle.ideal_wire.proofs.laws.loads_are_found.Goals as goal

pub returns-clause-opens : goal.returns-clause-opens
returns-clause-opens c = opens-mapped

pub returns-clause-stays : goal.returns-clause-stays
returns-clause-stays c = λ l s r stands laid machine spaced mapped.
    turn-mapped l stands laid machine spaced mapped s r

pub returns-clause-found : goal.returns-clause-found
returns-clause-found c = λ l m o bounced segments pages laid mapped there is.
    loads-found l laid mapped m o there bounced segments pages is
