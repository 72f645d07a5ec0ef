use Rattle.std.proofs.Common.{◌≡◌, ◌+◌, ◌-◌, ◌≤◌, length, map, take, drop}
use Rattle.std.specs.List.{AllByRecursion}
use Rattle.busdma_machine.specs.Machine.Wire.{put}
use Rattle.busdma_machine.specs.Runs.{run_of}
use Rattle.phys_memory.specs.Frames.{SamePages}
use Rattle.phys_memory.specs.Memory.{wire}
use Rattle.mbuf_defrag.specs.Copying.{IsAway}
use Rattle.mbuf_defrag.specs.CopySteps.{IsThere, rest_of}
use Rattle.mbuf_defrag.proofs.copying.copy_into.Given as goal

abbrev pub invariant-loop-done : goal.invariant-loop-done
invariant-loop-done l = record {
  left : put (run_of (l.target.pa.0 + l.done) (l.target.len - l.done))
      (map (wire l.memory.memory) (take (l.target.len - l.done) (rest_of l.source))) (wire l.memory.memory)
      ≡ put (run_of l.target.pa.0 l.target.len)
      (map (wire l.fn.memory.memory) (take l.target.len (rest_of l.fn.source))) (wire l.fn.memory.memory);
  rest : rest_of l.source ≡ drop l.done (rest_of l.fn.source);
  apart : AllByRecursion (IsAway (run_of (l.target.pa.0 + l.done) (l.target.len - l.done))) (rest_of l.source);
  there : AllByRecursion (IsThere l.fn.memory.memory) (rest_of l.source);
  enough : l.target.len - l.done ≤ length (rest_of l.source);
  inside : l.done ≤ l.target.len;
  same : SamePages l.fn.memory.memory l.memory.memory;
  spare : l.memory.spare ≡ l.fn.memory.spare;
}

abbrev pub decreases-loop-done : goal.decreases-loop-done
decreases-loop-done l = l.target.len - l.done
