use Rattle.std.proofs.Common.{◌≡◌, drop}
use Rattle.std.specs.List.{AllZip}
use Rattle.busdma_machine.specs.Machine.PageList.{page_frames}
use Rattle.busdma_machine.specs.Machine.Wire.{copied_out, with_bytes_of}
use Rattle.phys_memory.specs.Frames.{SamePages}
use Rattle.phys_memory.specs.Memory.{wire}
use Rattle.map_sync.specs.Held.{IsPageHeld, paged}
use Rattle.map_sync.specs.Ranges.{range_of_chunks}
use Rattle.map_sync.proofs.Stepping.{copied}
use Rattle.map_sync.proofs.out_of_pages.copy_out.Given as goal

abbrev pub invariant-loop-chunk : goal.invariant-loop-chunk
invariant-loop-chunk l = record {
  same : SamePages l.fn.memory.memory l.memory.memory;
  spare : l.memory.spare ≡ l.fn.memory.spare;
  held : AllZip (IsPageHeld l.fn.memory.memory) (paged (drop l.chunk-index l.chunks))
      (drop l.next (page_frames l.pages));
  left : copied (λ p. p.pa) (λ p. p.bus) (with_bytes_of l.pages (wire l.fn.memory.memory))
      (range_of_chunks l.off l.len (drop l.chunk-index l.chunks)) (with_bytes_of l.pages (wire l.memory.memory))
      ≡ copied_out (range_of_chunks l.off l.len l.chunks) (with_bytes_of l.pages (wire l.fn.memory.memory));
}
