use Rattle.std.proofs.Common.{◌≡◌, take}
use Rattle.world_core.proofs.Counting.{share-sum}
use Rattle.world_core.proofs.world.World.bounced.Given as goal

abbrev pub invariant-loop-lane : goal.invariant-loop-lane
invariant-loop-lane l = l.syncs ≡ share-sum l.fn.zone.0 (take l.lane-index l.fn.self.lanes.items)
