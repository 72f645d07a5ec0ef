use Rattle.std.proofs.Common.{◌≡◌, ◌≤◌, length}
use Rattle.iommu_load.specs.Gathering.{gathered_after, gathering_ended, pieces_of_runs, ungathered}
use Rattle.iommu_load.proofs.Gathering.{run_bytes}
use Rattle.iommu_load.proofs.measured.measure_device.Given as goal

abbrev pub invariant-loop-part : goal.invariant-loop-part
invariant-loop-part g l = record {
  can : (goal.iterator-loop-part g).can_next l.part-iterator;
  finite : (goal.iterator-loop-part g).is_finite l.part-iterator;
  gatherer : l.gatherer ≡ gathered_after (ungathered l.fn.first) l.yielded;
  pieces : l.pieces ≡ length (pieces_of_runs l.tag (gathering_ended (ungathered l.fn.first) l.yielded));
  few : l.pieces ≤ run_bytes (gathering_ended (ungathered l.fn.first) l.yielded);
}
