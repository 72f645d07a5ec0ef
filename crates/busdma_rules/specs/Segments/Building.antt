-- The chunks of a load in their pages, and their pieces.
use Rattle.std.specs.Prelude.{◌≡◌, ◌+◌, ◌<◌, ◌≤◌, true, false, List}
use Rattle.busdma_machine.specs.declared.machine.address.Pa.{Pa}
use Rattle.busdma_machine.specs.declared.machine.address.Segment.{Segment}
use Rattle.busdma_machine.specs.declared.machine.chunk.Chunk.{Chunk}
use Rattle.busdma_machine.specs.declared.tags.tag.TagLimits.{TagLimits}
use Rattle.busdma_machine.specs.Tags.TagFlags.{keep_pg_offset}
use Rattle.busdma_rules.specs.Segments.Pieces.{chunk_pieces}
use Rattle.busdma_rules.specs.Segments.Trace.{IsPlaced, chunk_len, page_offset, chunks_in_pages}

-- a tag's chunks, with each bounced one in its page of this list
abbrev pub tag_placed : TagLimits → List Chunk → List Pa → List Chunk
tag_placed t cs pages = chunks_in_pages (keep_pg_offset t.flags) cs pages

-- the pieces of a tag's chunks, with each bounced chunk in its page of this list
abbrev pub placed_pieces : TagLimits → List Chunk → List Pa → List Segment
placed_pieces t cs pages = chunk_pieces t (tag_placed t cs pages)

-- a chunk has a byte, is in its place if it is not bounced, and fits into a page if it is bounced
pub record IsPlaceable (t : TagLimits) (c : Chunk) : Type 0 where
  pub own : c.bounced ≡ false → IsPlaced c
  pub some : 0 < chunk_len c
  pub fits : c.bounced ≡ true → page_offset (keep_pg_offset t.flags) c.first.pa.0 + chunk_len c ≤ 4096
