-- The measure of a stream, what is built of it, and what its fronts require.
use Rattle.std.specs.Prelude.{◌≡◌, ℕ, ◌≤◌, List, ◌++◌, length, Some, None}
use Rattle.std.specs.List.{AllByRecursion}
use Rattle.busdma_machine.specs.declared.machine.address.Pa.{Pa}
use Rattle.busdma_machine.specs.declared.machine.address.Segment.{Segment}
use Rattle.busdma_machine.specs.declared.machine.chunk.Chunk.{Chunk}
use Rattle.busdma_machine.specs.declared.machine.chunk.Part.{Part}
use Rattle.busdma_machine.specs.declared.tags.tag.TagLimits.{TagLimits}
use Rattle.busdma_machine.specs.Machine.Entry.{IsStream, stream_entries, entries_bytes, unmapped_of}
use Rattle.segment_build.specs.declared.measured.Measured.{Measured}
use Rattle.segment_build.specs.declared.measured.Measured.TheVariants.{Fits, Unmapped}
use Rattle.segment_build.specs.declared.streamed.Streamed.{Streamed}
use Rattle.segment_build.specs.declared.streamed.Streamed.TheVariants.{Segments, TooMany}
use Rattle.busdma_rules.specs.Segments.Building.{tag_placed, placed_pieces}
use Rattle.busdma_rules.specs.Segments.Built.{IsFew, AreTooMany}
use Rattle.busdma_rules.specs.Segments.Chunks.{bounced_of, chunks_of, need_of}
use Rattle.busdma_rules.specs.Segments.Trace.{IsPage}

-- the chunks of the entries of a stream
abbrev pub stream_chunks : TagLimits → ℕ → List Part → List Chunk
stream_chunks t maxmem parts = chunks_of t maxmem (stream_entries parts)

-- each byte of the stream can be reached, and these are the numbers of its bounce pages, of its pieces in any
-- pages, and of its bytes
pub record IsMeasure (t : TagLimits) (maxmem : ℕ) (parts : List Part)
    (pages_needed piece_number byte_number : ℕ) : Type 0 where
  pub mapped : unmapped_of parts ≡ None
  pub need : pages_needed ≡ need_of (stream_chunks t maxmem parts)
  pub pieces : (pages : List Pa) → AllByRecursion IsPage pages →
      piece_number ≡ length (placed_pieces t (stream_chunks t maxmem parts) pages)
  pub bytes : byte_number ≡ entries_bytes (stream_entries parts)

-- the measure of a stream, or the offset of its first byte that cannot be reached
abbrev pub IsMeasured : TagLimits → ℕ → List Part → Measured → Type 0
IsMeasured t maxmem parts (Fits need pieces bytes) = IsMeasure t maxmem parts need pieces bytes
IsMeasured t maxmem parts (Unmapped at) = unmapped_of parts ≡ Some at

-- the segments of a stream with these pages, which are few enough, and its bounced chunks in their pages
pub record IsBuiltFrom (t : TagLimits) (maxmem : ℕ) (pages : List Pa) (parts : List Part)
    (segments : List Segment) (bounced : List Chunk) : Type 0 where
  pub segments_are : IsFew t (placed_pieces t (stream_chunks t maxmem parts) pages) segments
  pub bounced_are : bounced ≡ bounced_of (tag_placed t (stream_chunks t maxmem parts) pages)

-- the stream has too many segments with these pages
abbrev pub OverflowsFrom : TagLimits → ℕ → List Pa → List Part → Type 0
OverflowsFrom t maxmem pages parts = AreTooMany t (placed_pieces t (stream_chunks t maxmem parts) pages)

-- the segments and bounced chunks of a stream with these pages, or TooMany if the segments are too many
abbrev pub IsStreamed : TagLimits → ℕ → List Pa → List Part → Streamed → Type 0
IsStreamed t maxmem pages parts (Segments list bounced) = IsBuiltFrom t maxmem pages parts list bounced
IsStreamed t maxmem pages parts TooMany = OverflowsFrom t maxmem pages parts

-- a front of a stream is a stream, needs no more bounce pages than the stream, and has no more pieces
pub record AsksNoMore (t : TagLimits) (maxmem : ℕ) (pages : List Pa) (front whole : List Part) : Type 0 where
  pub stream : IsStream front
  pub need : need_of (stream_chunks t maxmem front) ≤ need_of (stream_chunks t maxmem whole)
  pub pieces : length (placed_pieces t (stream_chunks t maxmem front) pages)
      ≤ length (placed_pieces t (stream_chunks t maxmem whole) pages)

-- each front of each stream is a stream, needs no more bounce pages, and has no more pieces
abbrev pub FrontsAskNoMore : TagLimits → ℕ → List Pa → Type 0
FrontsAskNoMore t maxmem pages =
    (front rest : List Part) → IsStream (front ++ rest) → AsksNoMore t maxmem pages front (front ++ rest)
