use Rattle.ideal_wire.proofs.Devices.KeptSpaces.{opens-spaced, turn-spaced}
use Rattle.ideal_wire.proofs.laws.spaces_stay_in_order.Goals as goal

pub returns-clause-opens : goal.returns-clause-opens
returns-clause-opens c = opens-spaced

pub returns-clause-stays : goal.returns-clause-stays
returns-clause-stays c = λ l s r stands laid machine spaced. turn-spaced l stands laid machine spaced s r
