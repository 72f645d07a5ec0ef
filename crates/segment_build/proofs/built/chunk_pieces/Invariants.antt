use Rattle.std.proofs.Common.{◌≡◌, ◌++◌, drop}
use Rattle.std.specs.List.{AllByRecursion}
use Rattle.busdma_rules.specs.Segments.Pieces.{chunk_pieces}
use Rattle.busdma_rules.specs.Segments.Trace.{IsPlaced}
use Rattle.segment_build.proofs.built.chunk_pieces.Given as goal

abbrev pub invariant-loop-chunk : goal.invariant-loop-chunk
invariant-loop-chunk l = record {
  is : l.pieces.items ++ chunk_pieces l.tag (drop l.chunk-index l.chunks) ≡ chunk_pieces l.tag l.chunks;
  placed : AllByRecursion IsPlaced (drop l.chunk-index l.chunks);
}
