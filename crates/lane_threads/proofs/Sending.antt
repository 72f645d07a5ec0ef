-- A hub as an object, its passes and a lane's door may go to another thread, and threads may share its turnstile.
use denote.Param.Send.{IsSend, IsSync, sendable}
use Rattle.std.proofs.Crossing.{crosses}
use Rattle.busdma_machine.specs.contracts.bounce.hold.HoldEntry as Entry
use Rattle.busdma_machine.specs.contracts.bounce.opening.Opening as Opening
use Rattle.bounce_hub.proofs.Sending.{hub_send}
use Rattle.turnstile.specs.contracts.pass.Pass as Pass
use Rattle.turnstile.specs.contracts.lock.Turnstile as Turnstile
use Rattle.turnstile.proofs.Sending.{pass_send, turnstile_sync}
use Rattle.lane_threads.specs.contracts.call.DoorCall as Call
use Rattle.lane_threads.specs.contracts.call.DoorReply as Reply
use Rattle.lane_threads.specs.contracts.object.HubObject as Object
use Rattle.lane_threads.specs.contracts.object.HubObjectTurnObject as Acts

pub object_send : IsSend Object.the_row
object_send = search (hub_send, sendable, crosses) depth 60 fits 20000

pub lane_pass_send : IsSend (Pass.the_row Object.the_row Call.the_row Reply.the_row
    Entry.the_row Opening.the_row Acts.TheImpl.ghosts)
lane_pass_send =
    pass_send Object.the_row Call.the_row Reply.the_row Entry.the_row Opening.the_row Acts.TheImpl.ghosts object_send

pub lane_turnstile_sync : IsSync (Turnstile.the_row Object.the_row Call.the_row Reply.the_row
    Entry.the_row Opening.the_row Acts.TheImpl.ghosts)
lane_turnstile_sync =
    turnstile_sync Object.the_row Call.the_row Reply.the_row Entry.the_row
    Opening.the_row Acts.TheImpl.ghosts object_send
