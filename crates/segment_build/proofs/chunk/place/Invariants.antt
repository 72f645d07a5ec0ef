use Rattle.std.proofs.Common.{◌≡◌, ◌+◌, ◌++◌, length, take, drop}
use Rattle.busdma_rules.specs.Segments.Chunks.{need_of}
use Rattle.busdma_rules.specs.Segments.Trace.{chunks_in_pages}
use Rattle.segment_build.proofs.chunk.place.Given as goal

abbrev pub invariant-loop-chunk : goal.invariant-loop-chunk
invariant-loop-chunk l = record {
  is : take l.chunk-index l.chunks ++ chunks_in_pages l.keep (drop l.chunk-index l.chunks) (drop l.used l.pages)
      ≡ chunks_in_pages l.keep l.initial.chunks l.pages;
  used : l.used + need_of (drop l.chunk-index l.chunks) ≡ length l.pages;
}
