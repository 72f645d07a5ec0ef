use Rattle.std.proofs.Common.{◌≡◌, ◌-◌, ◌≤◌}
use Rattle.std.specs.List.{AllByRecursion}
use Rattle.busdma_machine.specs.Runs.{addresses, run_of}
use Rattle.ideal_lane.specs.Accesses.{raw_bytes}
use Rattle.lane_state.specs.Ideal.{ideal_of}
use Rattle.lane_access.specs.Raw.{IsInFrame}
use Rattle.lane_access.proofs.raw.raw_extents.Given as goal

abbrev pub invariant-loop-done : goal.invariant-loop-done
invariant-loop-done l = record {
  to : l.done ≤ l.len;
  bytes : addresses l.parts.items ≡ raw_bytes (ideal_of l.holdings) l.tag (run_of l.addr l.done);
  in_frames : AllByRecursion IsInFrame l.parts.items;
}

abbrev pub decreases-loop-done : goal.decreases-loop-done
decreases-loop-done l = l.len - l.done
