-- An entry of the bounce lock's history can be sent to another thread.
use denote.Param.Send.{IsSend, sendable}
use Rattle.std.proofs.Crossing.{crosses}
use Rattle.busdma_machine.specs.contracts.bounce.hold.HoldEntry as Entry

pub entry_send : IsSend Entry.the_row
entry_send = search (sendable, crosses) depth 60 fits 20000
