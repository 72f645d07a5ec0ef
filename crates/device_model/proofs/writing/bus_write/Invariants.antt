use Rattle.std.proofs.Common.{length, ◌-◌, ◌≡◌, ◌≤◌, take, drop}
use Rattle.std.specs.List.{AllByRecursion}
use Rattle.busdma_machine.specs.Machine.PageList.{page_frames}
use Rattle.busdma_machine.specs.Machine.Wire.{put, with_bytes_of}
use Rattle.phys_memory.specs.Frames.{SamePages}
use Rattle.phys_memory.specs.Memory.{wire}
use Rattle.device_model.specs.Access.{IsThere, bus_range}
use Rattle.device_model.specs.AccessSteps.{rest_of}
use Rattle.device_model.proofs.writing.bus_write.Given as goal

abbrev pub invariant-loop-done : goal.invariant-loop-done
invariant-loop-done l = record {
  left : put (take (length l.bytes - l.done) (rest_of l.cursor)) (drop l.done l.bytes)
      (with_bytes_of l.pages (wire l.memory.memory))
      ≡ put (bus_range l.off (length l.bytes) l.segments) l.bytes (with_bytes_of l.fn.pages (wire l.fn.memory.memory));
  enough : length l.bytes - l.done ≤ length (rest_of l.cursor);
  there : AllByRecursion (IsThere l.fn.memory.memory (page_frames l.fn.pages))
      (take (length l.bytes - l.done) (rest_of l.cursor));
  inside : l.done ≤ length l.bytes;
  frames : page_frames l.pages ≡ page_frames l.fn.pages;
  same : SamePages l.fn.memory.memory l.memory.memory;
  spare : l.memory.spare ≡ l.fn.memory.spare;
}

abbrev pub decreases-loop-done : goal.decreases-loop-done
decreases-loop-done l = length l.bytes - l.done
