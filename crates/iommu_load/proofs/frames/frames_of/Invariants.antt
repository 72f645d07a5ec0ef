use Rattle.std.proofs.Common.{◌≡◌}
use Rattle.iommu_load.specs.DeviceStreams.{stream_frames}
use Rattle.iommu_load.proofs.frames.frames_of.Given as goal

abbrev pub invariant-loop-part : goal.invariant-loop-part
invariant-loop-part g l = record {
  can : (goal.iterator-loop-part g).can_next l.part-iterator;
  finite : (goal.iterator-loop-part g).is_finite l.part-iterator;
  frames : l.frames.items ≡ stream_frames l.yielded;
}
