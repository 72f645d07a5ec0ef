use Rattle.std.proofs.Common.{◌≡◌}
use Rattle.std.specs.FinMap.{entries}
use Rattle.ideal_lane.specs.Rings.{candidates_in}
use Rattle.lane_state.specs.Ideal.{ideal_of}
use Rattle.lane_state.specs.Kept.{map_of}
use Rattle.lane_state.specs.MapValues.{entry_values}
use Rattle.lane_rings.specs.Ringing.{work_of}
use Rattle.lane_access.proofs.RawPlaces.{AreOfTable}
use Rattle.lane_rings.proofs.RingSteps.{found_in}
use Rattle.lane_rings.proofs.rings.find_work.Given as goal

abbrev pub invariant-loop-map : goal.invariant-loop-map
invariant-loop-map l = record {
  left : found_in l.descriptor (ideal_of l.holdings) l.blame
      (candidates_in l.descriptor l.own (ideal_of l.holdings) (entry_values map_of l.map-iterator))
      ≡ work_of l.descriptor (ideal_of l.holdings)
      (candidates_in l.descriptor l.own (ideal_of l.holdings) (entries (ideal_of l.holdings).maps));
  of : AreOfTable l.holdings.maps.map l.map-iterator;
}
