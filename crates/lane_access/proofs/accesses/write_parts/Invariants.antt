use Rattle.std.proofs.Common.{◌≡◌, ◌+◌, drop, length}
use Rattle.busdma_machine.specs.Runs.{addresses}
use Rattle.phys_memory.specs.Memory.{wire}
use Rattle.phys_memory.specs.Frames.{Lie, SamePages}
use Rattle.busdma_machine.specs.Machine.Wire.{put}
use Rattle.lane_access.proofs.accesses.write_parts.Given as goal

abbrev pub invariant-loop-part : goal.invariant-loop-part
invariant-loop-part l = record {
  left : put (addresses (drop l.part-index l.parts)) (drop l.done l.bytes) (wire l.memory.memory)
      ≡ put (addresses l.parts) l.bytes (wire l.initial.memory.memory);
  count : l.done + length (addresses (drop l.part-index l.parts)) ≡ length l.bytes;
  lie : Lie l.memory.memory (drop l.part-index l.parts);
  same : SamePages l.initial.memory.memory l.memory.memory;
}
