use Rattle.std.proofs.Common.{◌≡◌, ◌+◌, ◌++◌, drop, take, map, length}
use Rattle.busdma_machine.specs.Runs.{addresses}
use Rattle.phys_memory.specs.Memory.{wire}
use Rattle.phys_memory.specs.Frames.{Lie}
use Rattle.lane_access.proofs.accesses.fill.Given as goal

abbrev pub invariant-loop-part : goal.invariant-loop-part
invariant-loop-part l = record {
  left : take l.done l.out ++ map (wire l.memory.memory) (addresses (drop l.part-index l.parts))
      ≡ map (wire l.memory.memory) (addresses l.parts);
  count : l.done + length (addresses (drop l.part-index l.parts)) ≡ length l.out;
  lie : Lie l.memory.memory (drop l.part-index l.parts);
}
