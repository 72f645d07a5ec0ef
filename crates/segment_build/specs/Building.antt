-- What is built of the chunks of a load, one chunk after the other.
use Rattle.std.specs.Prelude.{◌≡◌, Bool, true, false, List}
use Rattle.busdma_machine.specs.declared.machine.address.Pa.{Pa}
use Rattle.busdma_machine.specs.declared.machine.address.Segment.{Segment}
use Rattle.busdma_machine.specs.declared.machine.chunk.Chunk.{Chunk}
use Rattle.busdma_machine.specs.declared.tags.tag.TagLimits.{TagLimits}
use Rattle.busdma_rules.specs.Segments.Built.{IsFew, AreTooMany}
use Rattle.busdma_rules.specs.Segments.Chunks.{bounced_of}
use Rattle.busdma_rules.specs.Segments.Building.{tag_placed, placed_pieces}

-- the segments and bounced chunks that are built of these chunks, as long as the segments are few enough;
-- only the private steps of the code use this, and no public clause cites it
pub record IsSoFar (t : TagLimits) (pages : List Pa) (cs : List Chunk) (segments : List Segment)
    (bounced : List Chunk) (few : Bool) : Type 0 where
  pub segments_are : few ≡ true → IsFew t (placed_pieces t cs pages) segments
  pub bounced_are : few ≡ true → bounced ≡ bounced_of (tag_placed t cs pages)
  pub too_many : few ≡ false → AreTooMany t (placed_pieces t cs pages)
