-- Calls on a lane that take no door, so they make no call under the bounce lock and wait for nothing. A map of another
-- lane is answered with Absent, like a map that does not exist.
use Rattle.std.specs.Prelude.{ℕ, ◌==◌, List, if◌then◌else◌}
use Rattle.busdma_machine.specs.declared.report.ReportName.TheVariants.{Absent}
use Rattle.busdma_machine.specs.declared.name.MapId.{MapId}
use Rattle.busdma_machine.specs.Machine.Wire.{Wire}
use Rattle.ideal_lane.specs.Accesses as accesses
use Rattle.ideal_lane.specs.Asking.{Asking}
use Rattle.ideal_lane.specs.Outcomes.{Outcome, refused}
use Rattle.ideal_lane.specs.State.{LaneState}
use Rattle.ideal_lane.specs.Syncs as syncs

-- the step of a call on a map, or the report Absent if the map is another lane's
abbrev pub unless_foreign : MapId → LaneState → Asking Outcome → Asking Outcome
unless_foreign m l step = if m.lane.0 == l.id then step else refused Absent 0 l

-- the wire after a call on a map, or the wire before it if the map is another lane's
abbrev pub wire_unless_foreign : MapId → LaneState → Wire → Wire → Wire
wire_unless_foreign m l after w = if m.lane.0 == l.id then after else w

-- a sync of the complete load of a map
abbrev pub lane_sync : MapId → ℕ → LaneState → Asking Outcome
lane_sync m ops l = unless_foreign m l (syncs.sync m.made_at ops l)

-- a sync of `len` bytes of a map's load, from its byte `off` on
abbrev pub lane_sync_range : MapId → ℕ → ℕ → ℕ → LaneState → Asking Outcome
lane_sync_range m off len ops l = unless_foreign m l (syncs.sync_range m.made_at off len ops l)

-- the device reads `len` bytes of a map's load, from its byte `off` on
abbrev pub lane_dev_read : MapId → ℕ → ℕ → LaneState → Asking Outcome
lane_dev_read m off len l = unless_foreign m l (accesses.dev_read m.made_at off len l)

-- the device writes these bytes into a map's load, from its byte `off` on
abbrev pub lane_dev_write : MapId → ℕ → List ℕ → LaneState → Asking Outcome
lane_dev_write m off vs l = unless_foreign m l (accesses.dev_write m.made_at off vs l)
