-- The chunks of a load's stream are those of the load, and what is built of them.
use Rattle.std.proofs.Common.{◌≡◌, ℕ, ◌≤◌, List, [], length, Some, refl, sym, ap, ◌∙◌, arith, Bool, true, false}
use Rattle.std.proofs.Common.{cond}
use Rattle.std.proofs.Common.{nat_le}
use Rattle.std.specs.FinMap.{get}
use Rattle.busdma_machine.specs.declared.report.Judged.{Judged}
use Rattle.busdma_machine.specs.declared.report.Judged.TheVariants.{Fine, Refused}
use Rattle.busdma_machine.specs.declared.machine.address.Pa.{Pa}
use Rattle.busdma_machine.specs.declared.machine.address.Span.{Span}
use Rattle.busdma_machine.specs.declared.machine.bio.Bio.{Bio}
use Rattle.busdma_machine.specs.declared.machine.address.Segment.{Segment}
use Rattle.busdma_machine.specs.declared.machine.chunk.Chunk.{Chunk}
use Rattle.busdma_machine.specs.declared.machine.chunk.Part.{Part}
use Rattle.busdma_machine.specs.declared.tags.tag.TagLimits.{TagLimits}
use Rattle.busdma_machine.specs.Machine.Entry.{parts_of}
use Rattle.busdma_machine.specs.Machine.Spans.{bio_spans}
use Rattle.busdma_machine.specs.Room.{Roomy}
use Rattle.dma_map.specs.declared.room.LoadRoom.{LoadRoom}
use Rattle.busdma_rules.specs.Memory.Bios.{is_rounded}
use Rattle.busdma_rules.specs.Memory.Translation.{Translation}
use Rattle.phys_memory.specs.VectorStreams.{IfAll, spans_stream, walk_unless}
use Rattle.busdma_rules.specs.Memory.Vectors.{entries_of}
use Rattle.phys_memory.proofs.VectorLaws.{walk_stream}
use Rattle.busdma_rules.specs.Segments.Building.{placed_pieces}
use Rattle.busdma_rules.specs.Segments.Chunks.{chunks_of}
use Rattle.busdma_rules.specs.Segments.Segmentation.{segmentation}
use Rattle.segment_build.specs.Streams.{IsBuiltFrom, OverflowsFrom, stream_chunks}
use Rattle.segment_build.proofs.Chunking.{chunks_of_parts}
use Rattle.segment_build.proofs.Cuts.{cut_shorter, one_segmentation}
use Rattle.ideal_lane.specs.Loads.{limits_of, load_entries, load_judged, load_translation}
use Rattle.ideal_lane.specs.State.{LaneMap, LaneState}
use Rattle.lane_state.specs.declared.holdings.Holdings.{Holdings}
use Rattle.lane_state.specs.declared.kept.KeptTag.{KeptTag}
use Rattle.lane_state.specs.Ideal.{ideal_of}
use Rattle.lane_state.specs.Judging.{earlier, foreign_judged}
use Rattle.lane_state.specs.Kept.{tag_of}
use Rattle.lane_state.specs.Loading.{HasRoomFor, IsFilled, IsOverfull, bio_chunks, bio_reached, load_stream}
use Rattle.lane_state.proofs.LoadJudged.{load-judged}
use Rattle.lane_state.proofs.LoadStreams.{stream-says}
use Rattle.lane_state.proofs.MapValues.{image-some}

-- the chunks of a stream in which each byte is reached
stream-is : (rounded : Bool) (t : Translation) (spans : List Span) (j : Judged) → j ≡ Fine →
    IfAll (walk_unless j (entries_of rounded t spans)) (λ es. spans_stream rounded t spans ≡ parts_of es)
    → spans_stream rounded t spans ≡ parts_of (entries_of rounded t spans)
stream-is rounded t spans Fine e h = h
stream-is rounded t spans (Refused r) e h = absurd (cc)

-- if a load is not refused, each of its bytes is reached
first-fine : (a b : Judged) → earlier a b ≡ Fine → a ≡ Fine
first-fine Fine b h = refl
first-fine (Refused r) Fine h = absurd (cc)
first-fine (Refused r) (Refused s) h = by (nat_le r.at s.at) h
  where
    by : (t : Bool) → cond t (Refused r) (Refused s) ≡ Fine → Refused r ≡ Fine
    by true k = absurd (cc)
    by false k = absurd (cc)

pub all-reached : (l : LaneState) (m : ℕ) (b : Bio) → load_judged l m b ≡ Fine → bio_reached l b ≡ Fine
all-reached l m b fine =
    sym (stream-says (is_rounded b) (load_translation l b) (bio_spans b))
    ∙ first-fine _ (foreign_judged l m b) (load-judged l m b ∙ fine)

-- the chunks of a load of a map, by its tag
pub load-chunks : (l : LaneState) (b : Bio) (o : LaneMap) (t : TagLimits) → bio_reached l b ≡ Fine →
    limits_of l o ≡ t → stream_chunks t l.maxmem (load_stream l b) ≡ bio_chunks l o b
load-chunks l b o t fine is =
    let tr = load_translation l b in
    ap (stream_chunks t l.maxmem)
    (stream-is (is_rounded b) tr (bio_spans b) _ fine (walk_stream (is_rounded b) tr (bio_spans b)))
    ∙ chunks_of_parts t l.maxmem (load_entries l b)
    ∙ ap (λ t. chunks_of t l.maxmem (load_entries l b)) (sym is)

-- the limits of a map's tag are those of the tag that is kept
pub kept-limits : (h : Holdings) (o : LaneMap) (t : KeptTag) → get h.tags.map o.tag ≡ Some t →
    limits_of (ideal_of h) o ≡ t.tag
kept-limits h o t there = rw (image-some tag_of h.tags.map o.tag t there) refl

module _ (t : TagLimits) (m : ℕ) (parts : List Part) (chunks : List Chunk) (pages : List Pa)
    (are : stream_chunks t m parts ≡ chunks) where
  pub filled-with : (room : LoadRoom) → IsBuiltFrom t m pages parts room.list.items room.bounced.items →
      IsFilled t chunks pages room
  filled-with room built = record {
    segments = one_segmentation t room.list.items (placed_pieces t (stream_chunks t m parts) pages)
        built.segments_are.0
        ∙ ap (λ cs. segmentation t (placed_pieces t cs pages)) are;
    few = built.segments_are.1;
    bounced = rw (sym are) built.bounced_are;
  }

  pub overfull-with : (room : LoadRoom) → OverflowsFrom t m pages parts → room.list.items ≡ [] →
      IsOverfull t chunks pages room
  overfull-with room over none = record {
    many = rw (sym (one_segmentation t over.segments (placed_pieces t (stream_chunks t m parts) pages) over.are
        ∙ ap (λ cs. segmentation t (placed_pieces t cs pages)) are)) over.many;
    none = none;
  }

-- the copy of the segments of a load fits into its room
pub copy-fits : (t : TagLimits) (chunks : List Chunk) (pages : List Pa) (room now : LoadRoom) (few : Bool) →
    (few ≡ true → IsFilled t chunks pages now) → (few ≡ false → IsOverfull t chunks pages now) →
    HasRoomFor t chunks pages room → now.shown ≡ room.shown → length now.list.items ≤ now.shown.spare
copy-fits t chunks pages room now true filled over has same =
    let f = filled refl in
    omega (
      arith,
      f.few,
      ap length f.segments,
      cut_shorter t (placed_pieces t chunks pages),
      has.copy,
      ap (λ (x : Roomy Segment). x.spare) same,
    )
copy-fits t chunks pages room now false filled over has same = omega (arith, ap length (over refl).none)
