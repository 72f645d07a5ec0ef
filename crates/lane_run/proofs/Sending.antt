-- A lane's door may go to another thread if the handle may be shared.
use denote.RattleType.{RattleType}
use denote.Ref.{NamedLft}
use denote.Param.Send.{IsSend, IsSync, sendable}
use Rattle.std.proofs.Crossing.{crosses}
use Rattle.lane_threads.specs.contracts.door.PassDoor as PassDoor
use Rattle.lane_threads.proofs.Sending.{lane_pass_send, lane_turnstile_sync}

pub door_send : (a : NamedLft) (Rt : RattleType) → IsSync Rt → IsSend (PassDoor.the_row a Rt)
door_send a Rt s = search (lane_pass_send, lane_turnstile_sync, sendable, crosses) depth 60 fits 20000
