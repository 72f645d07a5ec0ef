use Rattle.std.proofs.Common.{◌≡◌, ◌+◌, ◌≤◌, length}
use Rattle.iommu_load.specs.Gathering.{AreSoFar, gathered_after}
use Rattle.iommu_load.specs.Gathering.{gathering_ended, pieces_of_runs, ungathered}
use Rattle.iommu_load.proofs.built.build_device.Given as goal

abbrev pub invariant-loop-part : goal.invariant-loop-part
invariant-loop-part g l = record {
  can : (goal.iterator-loop-part g).can_next l.part-iterator;
  finite : (goal.iterator-loop-part g).is_finite l.part-iterator;
  gatherer : l.gatherer ≡ gathered_after (ungathered l.fn.first) l.yielded;
  so_far : AreSoFar l.tag (pieces_of_runs l.tag (gathering_ended (ungathered l.fn.first) l.yielded)) l.list.items l.few;
  room : l.initial.list.spare ≤ l.list.spare + length l.list.items;
}
