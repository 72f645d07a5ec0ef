-- What a load names, what it prepares before it changes its driver, and what is built of its bytes.
use Rattle.std.specs.Prelude.{◌≡◌, ℕ, ◌+◌, ◌≤◌, ◌<◌, ◌^◌, Bool, true, false, List, [], ◌∷◌, length, min, Some}
use Rattle.std.specs.FinMap.{get, contains_key}
use Rattle.std.specs.List.{AllByRecursion}
use Rattle.busdma_machine.specs.declared.bounce.door.Grabbed.{Grabbed}
use Rattle.busdma_machine.specs.declared.bounce.door.Grabbed.TheVariants.{Granted, Queued, NoPages}
use Rattle.busdma_machine.specs.declared.report.Judged.{Judged}
use Rattle.busdma_machine.specs.declared.machine.address.Extent.{Extent}
use Rattle.busdma_machine.specs.declared.machine.address.Pa.{Pa}
use Rattle.busdma_machine.specs.declared.machine.bio.Bio.{Bio}
use Rattle.busdma_machine.specs.declared.machine.bio.Bio.TheVariants as bio
use Rattle.busdma_machine.specs.declared.machine.chunk.Chunk.{Chunk}
use Rattle.busdma_machine.specs.declared.machine.chunk.Part.{Part}
use Rattle.busdma_machine.specs.declared.machine.chunk.Part.TheVariants.{Of, Unmapped}
use Rattle.busdma_base.specs.declared.scenarios.scenario.PageRun.{PageRun}
use Rattle.busdma_machine.specs.declared.tags.tag.TagLimits.{TagLimits}
use Rattle.dma_map.specs.declared.room.LoadRoom.{LoadRoom}
use Rattle.busdma_machine.specs.Machine.Entry.{entries_addresses}
use Rattle.busdma_machine.specs.Machine.Spans.{bio_spans, span_bytes}
use Rattle.busdma_machine.specs.Runs.{run_of}
use Rattle.busdma_base.specs.Scenarios.Buffers.{IsBioOf}
use Rattle.load_bio.specs.Bio.{IsBio, bio_stream}
use Rattle.busdma_rules.specs.Lending.Loans.{Loan, new_loan}
use Rattle.loan_table.specs.Table.{Table}
use Rattle.busdma_rules.specs.Memory.Vectors.{judged_spans}
use Rattle.busdma_rules.specs.Segments.Building.{placed_pieces, tag_placed}
use Rattle.busdma_rules.specs.Segments.Chunks.{bounced_of, need_of}
use Rattle.busdma_rules.specs.Segments.Segmentation.{segmentation}
use Rattle.busdma_rules.specs.Segments.Trace.{IsPage}
use Rattle.ideal_lane.specs.Loads.{chunks_for, is_coherent, load_entries, load_translation}
use Rattle.ideal_lane.specs.Places.{physical}
use Rattle.ideal_lane.specs.State.{LaneMap, LaneMemory, LaneState}
use Rattle.ideal_wire.specs.Laid.{is_loadable}
use Rattle.lane_state.specs.declared.buffers.LoadBytes.{LoadBytes}
use Rattle.lane_state.specs.declared.buffers.LoadBytes.TheVariants as bytes

-- a loan that lends nothing is prepared for a map
pub record HasPrepared (t : Table) (m : ℕ) : Type 0 where
  pub coherent : Bool
  pub bytes : List ℕ
  pub is : get t.prepared m ≡ Some (new_loan coherent bytes)

-- the bio of the bytes that a load names
abbrev pub bio_of : LoadBytes → Bio
bio_of (bytes.Span va len) = bio.Mapped (record { va = record { 0 = va }; len = len })
bio_of (bytes.Spans spans) = bio.Vector spans.now
bio_of (bytes.Frames frames off len) = bio.Unmapped frames.now off len

-- how many bytes a bio has
abbrev pub bio_bytes : Bio → ℕ
bio_bytes b = span_bytes (bio_spans b)

-- a bio of a driver of these pages is loadable: it is small, and if it is not mapped, it begins in its first frame and
-- has only frames of the pages
pub record IsLoadable (pages : List PageRun) (b : Bio) : Type 0 where
  pub small : bio_bytes b ≤ 2 ^ 20
  pub bio : IsBio b
  pub own : IsBioOf pages b

-- the refusal at the first byte of a bio that the driver does not reach
abbrev pub bio_reached : LaneState → Bio → Judged
bio_reached l b = judged_spans (load_translation l b) 0 (bio_spans b)

-- the stream of a load: the parts of its bytes, up to the first that the driver does not reach
abbrev pub load_stream : LaneState → Bio → List Part
load_stream l b = bio_stream (physical l) b

-- the extents of a stream, in order
abbrev pub stream_extents : List Part → List Extent
stream_extents [] = []
stream_extents (Of e opens rounded ∷ ps) = e ∷ stream_extents ps
stream_extents (Unmapped at ∷ ps) = stream_extents ps

-- the loan of a map that is loaded with this bio, while no byte is lent yet
abbrev pub load_loan : LaneState → ℕ → Bio → Loan
load_loan l m b = new_loan (is_coherent (get l.mems m)) (entries_addresses (load_entries l b))

-- the chunks of a load of a map with a bio
abbrev pub map_chunks : LaneState → ℕ → LaneMap → Bio → List Chunk
map_chunks l m o b = chunks_for l o (contains_key l.mems m) (load_entries l b)

-- the chunks of a load of a map that is not a memory's
abbrev pub bio_chunks : LaneState → LaneMap → Bio → List Chunk
bio_chunks l o b = chunks_for l o false (load_entries l b)

-- the bytes of a bio are the first ones of this memory, below the end of any machine's memory
pub record AreFirstEntries (l : LaneState) (x : LaneMemory) (b : Bio) : Type 0 where
  pub run : entries_addresses (load_entries l b) ≡ run_of x.first (bio_bytes b)
  pub inside : x.first + bio_bytes b ≤ 2 ^ 42

-- if the map is a memory's, the bytes of a bio are the first ones of the memory
abbrev pub AreItsFirst : LaneState → ℕ → Bio → Type 0
AreItsFirst l m b = (x : LaneMemory) → get l.mems m ≡ Some x → AreFirstEntries l x b

-- all bytes of a load may be loaded into this map: they are of the driver's pages, or of the memory whose map it is
abbrev pub AreOfMap : LaneState → ℕ → Bio → Type 0
AreOfMap l m b = AllByRecursion (λ a. is_loadable (get l.mems m) l a ≡ true) (entries_addresses (load_entries l b))

-- empty lists have room for the segments of chunks in these pages, up to the tag's limit, for their copy and for the
-- bounced chunks, and the pages are enough
pub record HasRoomFor (t : TagLimits) (chunks : List Chunk) (pages : List Pa) (room : LoadRoom) : Type 0 where
  pub empty : room.list.items ≡ []
  pub empty_copy : room.shown.items ≡ []
  pub empty_bounced : room.bounced.items ≡ []
  pub paged : need_of chunks ≤ length pages
  pub segments : min (length (placed_pieces t chunks pages)) t.nsegments ≤ room.list.spare
  pub copy : min (length (placed_pieces t chunks pages)) t.nsegments ≤ room.shown.spare
  pub bounced : need_of chunks ≤ room.bounced.spare

-- the lists have the segments of chunks in these pages, which are few enough for the tag, and the bounced chunks
pub record IsFilled (t : TagLimits) (chunks : List Chunk) (pages : List Pa) (room : LoadRoom) : Type 0 where
  pub segments : room.list.items ≡ segmentation t (placed_pieces t chunks pages)
  pub few : length room.list.items ≤ t.nsegments
  pub bounced : room.bounced.items ≡ bounced_of (tag_placed t chunks pages)

-- the segments of chunks in these pages are too many for the tag, and the list of segments is empty
pub record IsOverfull (t : TagLimits) (chunks : List Chunk) (pages : List Pa) (room : LoadRoom) : Type 0 where
  pub many : t.nsegments < length (segmentation t (placed_pieces t chunks pages))
  pub none : room.list.items ≡ []

-- a load of so many bytes is not too long for the tag; its chunks need so many pages; and this room is enough for their
-- segments, up to the tag's limit, in whichever pages
pub record IsWanted (t : TagLimits) (chunks : List Chunk) (len pages_needed room : ℕ) : Type 0 where
  pub short : len ≤ t.maxsize
  pub need : pages_needed ≡ need_of chunks
  pub segments : (pages : List Pa) → AllByRecursion IsPage pages →
      min (length (placed_pieces t chunks pages)) t.nsegments ≤ room

-- empty lists have room for the load of chunks that need so many pages, whichever pages they get, and for the addresses
-- of the pages
pub record HasRoomForAny (t : TagLimits) (chunks : List Chunk) (pages_needed : ℕ) (room : LoadRoom) : Type 0 where
  pub need : pages_needed ≡ need_of chunks
  pub empty_addresses : room.addresses.items ≡ []
  pub addresses : pages_needed ≤ room.addresses.spare
  pub any : (pages : List Pa) → AllByRecursion IsPage pages → length pages ≡ pages_needed →
      HasRoomFor t chunks pages room

-- if pages were granted, they are as many as were needed
abbrev pub HasNeed : ℕ → Grabbed → Type 0
HasNeed n (Granted pages) = length pages.items ≡ n
HasNeed n (Queued have) = Unit {0}
HasNeed n NoPages = Unit {0}
