-- The bytes that the drivers of a world of the program really hold.
use Rattle.std.specs.Prelude.{List, Option, Some, None, slice_get}
use Rattle.busdma_machine.specs.Machine.Wire.{Wire}
use Rattle.lane_core.specs.declared.lane.Lane.{Lane}
use Rattle.lane_core.specs.LaneIdeal.{wire}
use Rattle.ideal_wire.specs.WireStep.{Follows}
use Rattle.ideal_world.specs.Wires.{EachDriver, Wires}
use Rattle.ideal_world.specs.World.{WorldState}
use Rattle.world_core.specs.declared.world.World.{World}

-- the bytes that the frames and bounce pages of a lane really hold; all are 0 if there is no lane
abbrev pub wire_in : Option Lane → Wire
wire_in None = λ a. 0
wire_in (Some l) = wire l

-- the bytes that each lane of a list really holds, by the lane's place in the list
abbrev pub wires_in : List Lane → Wires
wires_in lanes = λ i. wire_in (slice_get lanes i)

-- the bytes that each driver of a world really holds, by the driver's number
abbrev pub wires_of : World → Wires
wires_of w = wires_in w.lanes.items

-- the bytes of each driver's own frames and of its maps' pages are unchanged
abbrev pub WiresStay : WorldState → Wires → Wires → Type 0
WiresStay w before after = EachDriver (λ i l. Follows l l (before i) (after i)) w
