use Rattle.std.proofs.Common.{length, ◌-◌, ◌≡◌, ◌≤◌, ◌++◌, map, take}
use Rattle.std.specs.List.{AllByRecursion}
use Rattle.busdma_machine.specs.Machine.PageList.{page_frames}
use Rattle.busdma_machine.specs.Machine.Wire.{with_bytes_of}
use Rattle.phys_memory.specs.Memory.{wire}
use Rattle.device_model.specs.Access.{IsThere, bus_range}
use Rattle.device_model.specs.AccessSteps.{rest_of}
use Rattle.device_model.proofs.reading.bus_read.Given as goal

abbrev pub invariant-loop-done : goal.invariant-loop-done
invariant-loop-done l = record {
  left : take l.done l.out ++ map (with_bytes_of l.pages (wire l.memory.memory))
      (take (length l.out - l.done) (rest_of l.cursor))
      ≡ map (with_bytes_of l.pages (wire l.memory.memory)) (bus_range l.off (length l.fn.out) l.segments);
  enough : length l.out - l.done ≤ length (rest_of l.cursor);
  there : AllByRecursion (IsThere l.memory.memory (page_frames l.pages))
      (take (length l.out - l.done) (rest_of l.cursor));
  inside : l.done ≤ length l.out;
}

abbrev pub decreases-loop-done : goal.decreases-loop-done
decreases-loop-done l = length l.initial.out - l.done
