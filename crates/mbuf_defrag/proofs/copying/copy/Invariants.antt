use Rattle.std.proofs.Common.{◌≡◌, length, map, drop}
use Rattle.std.specs.List.{AllByRecursion}
use Rattle.busdma_machine.specs.Machine.Wire.{put}
use Rattle.busdma_machine.specs.Runs.{addresses}
use Rattle.phys_memory.specs.Frames.{Lie, SamePages}
use Rattle.phys_memory.specs.Memory.{wire}
use Rattle.mbuf_defrag.specs.Copying.{IsAway, extents_copied}
use Rattle.mbuf_defrag.specs.CopySteps.{IsThere, rest_of}
use Rattle.mbuf_defrag.proofs.copying.copy.Given as goal

abbrev pub invariant-loop-target : goal.invariant-loop-target
invariant-loop-target l = record {
  left : put (addresses (drop l.target-index l.to)) (map (wire l.memory.memory) (rest_of l.source))
      (wire l.memory.memory)
      ≡ extents_copied l.from l.to (wire l.fn.memory.memory);
  apart : AllByRecursion (IsAway (addresses (drop l.target-index l.to))) (rest_of l.source);
  there : AllByRecursion (IsThere l.fn.memory.memory) (rest_of l.source);
  alike : length (rest_of l.source) ≡ length (addresses (drop l.target-index l.to));
  lies : Lie l.fn.memory.memory (drop l.target-index l.to);
  same : SamePages l.fn.memory.memory l.memory.memory;
  spare : l.memory.spare ≡ l.fn.memory.spare;
}
