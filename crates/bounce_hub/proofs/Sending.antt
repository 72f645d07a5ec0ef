-- A hub may go to another thread.
use denote.Param.Send.{IsSend, sendable}
use Rattle.std.proofs.Crossing.{crosses}
use Rattle.busdma_machine.proofs.Sending.{entry_send}
use Rattle.bounce_hub.specs.contracts.hub.Hub as Hub

pub hub_send : IsSend Hub.the_row
hub_send = search (entry_send, sendable, crosses) depth 60 fits 40000
