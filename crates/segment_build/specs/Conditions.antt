-- What a build into two lists with room requires.
use Rattle.std.specs.Prelude.{◌≡◌, ◌≤◌, ℕ, min, List, [], length, Option}
use Rattle.std.specs.Iterator.{HoldsAlong}
use Rattle.std.specs.List.{AllByRecursion}
use Rattle.busdma_machine.specs.declared.machine.address.Pa.{Pa}
use Rattle.busdma_machine.specs.declared.machine.address.Segment.{Segment}
use Rattle.busdma_machine.specs.declared.machine.chunk.Chunk.{Chunk}
use Rattle.busdma_machine.specs.declared.machine.chunk.Part.{Part}
use Rattle.busdma_machine.specs.declared.tags.tag.TagLimits.{TagLimits}
use Rattle.busdma_machine.specs.Machine.Entry.{IsStream}
use Rattle.busdma_machine.specs.Room.{Roomy}
use Rattle.busdma_rules.specs.Segments.Building.{placed_pieces}
use Rattle.busdma_rules.specs.Segments.Chunks.{need_of}
use Rattle.segment_build.specs.Streams.{stream_chunks}
use Rattle.busdma_rules.specs.Segments.Trace.{IsPage}

-- these parts are a stream; there are pages for its need, and room for its segments and its bounced chunks
pub record HasRooms (t : TagLimits) (maxmem : ℕ) (pages : List Pa) (room bounced_room : ℕ)
    (parts : List Part) : Type 0 where
  pub stream : IsStream parts
  pub need : need_of (stream_chunks t maxmem parts) ≤ length pages
  pub fits : min (length (placed_pieces t (stream_chunks t maxmem parts) pages)) t.nsegments ≤ room
  pub bounced_fit : need_of (stream_chunks t maxmem parts) ≤ bounced_room

-- the pages begin frames, the two lists are empty, and each front of what an iterator yields has pages and
-- room
pub record CanBuild {S : Type 0} (steps : S → Option Part → S → Type 0) (parts : S) (t : TagLimits) (maxmem : ℕ)
    (pages : List Pa) (list : Roomy Segment) (bounced : Roomy Chunk) : Type 0 where
  pub at_frames : AllByRecursion IsPage pages
  pub empty : list.items ≡ []
  pub empty_bounced : bounced.items ≡ []
  pub fronts : HoldsAlong steps parts (HasRooms t maxmem pages list.spare bounced.spare)
