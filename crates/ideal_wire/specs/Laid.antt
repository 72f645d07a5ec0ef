-- Where the loads of a driver are, in its memory and in bounce pages.
use Rattle.std.specs.Prelude.{◌≡◌, ℕ, ◌*◌, ◌/◌, ◌%◌, ◌≤◌, Bool, true, false, List, [], Option, Some, None}
use Rattle.std.specs.Prelude.{is_some, length}
use Rattle.std.specs.List.{AllByRecursion, AllZip}
use Rattle.std.specs.FinMap.{get}
use Rattle.std.specs.Option.{option_map_or}
use Rattle.busdma_machine.specs.declared.machine.bio.Bio.{Bio}
use Rattle.busdma_machine.specs.declared.machine.chunk.Chunk.{Chunk}
use Rattle.busdma_machine.specs.declared.machine.address.Segment.{Segment}
use Rattle.busdma_base.specs.declared.scenarios.scenario.PageRun.{PageRun}
use Rattle.busdma_machine.specs.Bounce.Account.{Account}
use Rattle.busdma_machine.specs.Bounce.AccountStep.{account_step}
use Rattle.busdma_machine.specs.Bounce.MemoryRuns.{in_run}
use Rattle.busdma_base.specs.Scenarios.PageRuns.{is_own, physical_in}
use Rattle.busdma_machine.specs.Machine.Spans.{bio_spans, span_addresses}
use Rattle.busdma_machine.specs.Machine.Wire.{buses}
use Rattle.busdma_machine.specs.Runs.{IsExtent, run_of}
use Rattle.busdma_base.specs.Scenarios.Buffers.{IsBioOf}
use Rattle.busdma_machine.specs.Tags.Tag.{excluded}
use Rattle.busdma_rules.specs.Memory.Bios.{bio_translation, is_rounded}
use Rattle.busdma_rules.specs.declared.position.Position.{Position}
use Rattle.busdma_rules.specs.Lending.Loans.{addresses_of, loan_of, no_loan}
use Rattle.busdma_rules.specs.Syncs.ChunkTraces.{HasChunks}
use Rattle.busdma_rules.specs.Memory.Translation.{Translation}
use Rattle.busdma_rules.specs.Memory.Vectors.{entries_of}
use Rattle.busdma_rules.specs.Segments.Chunks.{need_of}
use Rattle.busdma_rules.specs.Segments.Segmentation.{segment_bytes}
use Rattle.busdma_rules.specs.Segments.Trace.{bus_extent, chunk_extents}
use Rattle.ideal_lane.specs.State.{LaneState, LaneMap, LaneMemory, Stage, Idle, Waiting, Loaded, Returning}
use Rattle.ideal_lane.specs.State.{WaitingLoad}
use Rattle.ideal_lane.specs.Asking.{Asking, Gives, Asks}
use Rattle.ideal_lane.specs.Loads.{chunks_for, is_coherent, is_device, limits_of}
use Rattle.ideal_lane.specs.Turns.{Turned}
use Rattle.ideal_wire.specs.Answered.{load_at}
use Rattle.ideal_wire.specs.Centre.{IsAt}
use Rattle.ideal_wire.specs.Traces.{stage_at, traces_of}

-- a chunk has a place in a page, and is in that page on the bus
pub record IsInPage (c : Chunk) (page : ℕ) : Type 0 where
  pub paged : is_some c.page ≡ true
  pub bus : IsExtent (bus_extent c)
  pub frame : (bus_extent c).pa.0 / 4096 * 4096 ≡ page

-- each extent of a chunk is in one frame
abbrev pub IsOfExtents : Chunk → Type 0
IsOfExtents c = AllByRecursion IsExtent (chunk_extents c)

-- a byte is one of a memory's frames, or, if there is no memory, of the driver's pages
abbrev pub is_loadable : Option LaneMemory → LaneState → ℕ → Bool
is_loadable None l a = is_own l.pages a
is_loadable (Some x) l a = in_run x.first x.count a

-- there is a map of an IOMMU tag at a place
abbrev pub is_behind : LaneState → ℕ → Bool
is_behind l m = option_map_or (is_device l) (get l.maps m) false

-- these are the first bytes of a memory, in order
abbrev pub AreFirst : LaneMemory → List ℕ → Type 0
AreFirst x bytes = bytes ≡ run_of x.first (length bytes)

-- the load of a map is laid: if the map is a memory's, its bytes are the first bytes of that memory, in order, and none
-- is bounced; else they are of the driver's pages; its loan is coherent if the map's memory is; its bounced chunks are
-- in its pages, one in each, and have the bytes at their places; and, unless the map is of an IOMMU tag, the bytes of
-- its segments are its trace
pub record IsLaid (l : LaneState) (m : ℕ) (bounced : List Chunk) (segments : List Segment) (pages : List ℕ)
    : Type 0 where
  pub coherent : (loan_of l.loans m).coherent ≡ is_coherent (get l.mems m)
  pub bytes : (i : ℕ) (p : Position) → IsAt l.loans m i p → is_loadable (get l.mems m) l p.pa ≡ true
  pub first : (x : LaneMemory) → get l.mems m ≡ Some x → AreFirst x (addresses_of (loan_of l.loans m).positions)
  pub direct : is_some (get l.mems m) ≡ true → bounced ≡ []
  pub paged : AllZip IsInPage bounced pages
  pub extents : AllByRecursion IsOfExtents bounced
  pub chunks : HasChunks 0 (traces_of l m) bounced
  pub trace : is_behind l m ≡ false → segment_bytes segments ≡ buses (traces_of l m)

-- where the bytes of a bio are, by these pages only; no step changes that
abbrev pub in_pages : List PageRun → Bio → Translation
in_pages pages b = bio_translation (physical_in pages) b

-- each byte of a bio is in these pages
abbrev pub AreInPages : List PageRun → Bio → Type 0
AreInPages pages b = AllByRecursion (λ va. is_some (in_pages pages b va) ≡ true) (span_addresses (bio_spans b))

-- the chunks of a load of a map with a bio of the driver's pages
abbrev pub paged_chunks : LaneState → LaneMap → Bio → List Chunk
paged_chunks l o b = chunks_for l o false (entries_of (is_rounded b) (in_pages l.pages b) (bio_spans b))

-- a map that waits lends nothing; the load for which it waits is only of the driver's pages, and so names no memory;
-- the load's chunks need as many pages as the map waits for, which is at least one; and it is the load at its place of
-- the script, whatever the driver does
pub record IsAwaited (l : LaneState) (m : ℕ) (w : WaitingLoad) : Type 0 where
  pub unlent : loan_of l.loans m ≡ no_loan
  pub some : 1 ≤ w.need
  pub named : IsBioOf l.pages w.bio
  pub own : AreInPages l.pages w.bio
  pub counted : (o : LaneMap) → get l.maps m ≡ Some o → w.need ≡ need_of (paged_chunks l o w.bio)
  pub told : (s : LaneState) → s.script ≡ l.script →
      load_at s w.load_at ≡ Some (record { map = m; bio = w.bio })

-- a map is laid as its stage demands; without a load it lends nothing
abbrev pub LiesIn : LaneState → ℕ → Stage → Type 0
LiesIn l m Idle = loan_of l.loans m ≡ no_loan
LiesIn l m (Waiting w) = IsAwaited l m w
LiesIn l m (Loaded bounced segments pages) = IsLaid l m bounced segments pages
LiesIn l m Returning = loan_of l.loans m ≡ no_loan

-- a memory has complete frames, which have all its bytes
pub record HasWholeFrames (x : LaneMemory) : Type 0 where
  pub whole : x.first % 4096 ≡ 0
  pub room : x.len ≤ 4096 * x.count

-- a byte is in the driver's pages, or in the frames of one of its memories
pub data IsOwnByte (l : LaneState) (a : ℕ) : Type 0 where
  OfPages : is_own l.pages a ≡ true → IsOwnByte l a
  OfMemory : (k : ℕ) (x : LaneMemory) → get l.mems k ≡ Some x → in_run x.first x.count a ≡ true → IsOwnByte l a

-- the device of a memory's map reaches each byte of the memory's frames
abbrev pub ReachesMemory : LaneState → LaneMemory → LaneMap → Type 0
ReachesMemory l x o = (a : ℕ) → in_run x.first x.count a ≡ true → excluded (limits_of l o) a ≡ false

-- the driver's own bytes are those of its pages and memories and no others; its memories have complete frames, which
-- their devices reach; and each map is laid as its stage demands
pub record AreLaid (l : LaneState) : Type 0 where
  pub owned : (a : ℕ) → IsOwnByte l a → is_some (l.memory a) ≡ true
  pub only : (a : ℕ) → is_some (l.memory a) ≡ true → ∥ IsOwnByte l a ∥₁
  pub runs : (k : ℕ) (x : LaneMemory) → get l.mems k ≡ Some x → HasWholeFrames x
  pub reached : (k : ℕ) (x : LaneMemory) (o : LaneMap) → get l.mems k ≡ Some x → get l.maps k ≡ Some o →
      ReachesMemory l x o
  pub each : (m : ℕ) → LiesIn l m (stage_at l m)

-- after a step, by the account's reply, the loads of the driver are laid
abbrev pub KeepsLaid : ℕ → Account → Asking Turned → Type 0
KeepsLaid lane a (Gives t) = AreLaid t.lane
KeepsLaid lane a (Asks c k) = AreLaid (k (account_step lane c a).reply).lane
