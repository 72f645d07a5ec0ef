use Rattle.std.proofs.Common.{ap}
use Rattle.ideal_lane.specs.State.{LaneState}
use Rattle.lane_objects.proofs.RoomSteps.{beside-then}
use Rattle.lane_objects.proofs.memories.keep_memory.Goals as goal

pub returns-clause-bytes : goal.returns-clause-bytes
returns-clause-bytes c =
    beside-then c.args.holdings.now c.join_memory.new.holdings c.put_map.new.holdings c.join_memory.ensures.bytes
    c.put_map.ensures.bytes (ap (λ (l : LaneState). l.memory) c.put_map.ensures.done)
