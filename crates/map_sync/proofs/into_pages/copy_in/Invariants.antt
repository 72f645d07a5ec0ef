use Rattle.std.proofs.Common.{◌≡◌, drop}
use Rattle.std.specs.List.{AllZip}
use Rattle.busdma_machine.specs.Machine.PageList.{page_frames}
use Rattle.busdma_machine.specs.Machine.Wire.{copied_in, with_bytes_of}
use Rattle.phys_memory.specs.Memory.{wire}
use Rattle.map_sync.specs.Held.{IsPageHeld, paged}
use Rattle.map_sync.specs.Ranges.{range_of_chunks}
use Rattle.map_sync.proofs.Stepping.{copied}
use Rattle.map_sync.proofs.into_pages.copy_in.Given as goal

abbrev pub invariant-loop-chunk : goal.invariant-loop-chunk
invariant-loop-chunk l = record {
  frames : page_frames l.pages ≡ page_frames l.fn.pages;
  held : AllZip (IsPageHeld l.memory.memory) (paged (drop l.chunk-index l.chunks))
      (drop l.next (page_frames l.fn.pages));
  left : copied (λ p. p.bus) (λ p. p.pa) (with_bytes_of l.fn.pages (wire l.memory.memory))
      (range_of_chunks l.off l.len (drop l.chunk-index l.chunks)) (with_bytes_of l.pages (wire l.memory.memory))
      ≡ copied_in (range_of_chunks l.off l.len l.chunks) (with_bytes_of l.fn.pages (wire l.memory.memory));
}
