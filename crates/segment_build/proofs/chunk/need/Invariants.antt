use Rattle.std.proofs.Common.{◌≡◌, ◌+◌, ◌≤◌, drop}
use Rattle.busdma_rules.specs.Segments.Chunks.{need_of}
use Rattle.segment_build.proofs.chunk.need.Given as goal

abbrev pub invariant-loop-chunk : goal.invariant-loop-chunk
invariant-loop-chunk l = record {
  is : l.need + need_of (drop l.chunk-index l.chunks) ≡ need_of l.chunks;
  few : l.need ≤ l.chunk-index;
}
