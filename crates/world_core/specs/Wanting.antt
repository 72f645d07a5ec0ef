-- Which turns may run out of memory.
use Rattle.std.specs.Prelude.{◌≡◌, Some, slice_get}
use Rattle.busdma_base.specs.declared.journals.journal.Actor.{Actor}
use Rattle.ideal_lane.specs.State.{LaneState}
use Rattle.ideal_world.specs.World.{WorldState}
use Rattle.lane_turns.specs.TakenTurns as turning

-- an actor has a driver, whose turn of the actor's side may run out of memory: it is not a callback, and gives no page
-- back
abbrev pub MayWant : WorldState → Actor → Type 0
MayWant w actor =
    (l : LaneState) × (slice_get w.lanes actor.lane.0 ≡ Some l) × turning.MayWant l actor.side
