-- Loads: what they name, how they are cut, and how they end. After bus_dmamap_load(9) and the x86 bounce code.
use Rattle.std.specs.Prelude.{ℕ, ◌+◌, ◌==◌, Bool, true, false, not, ◌&&◌, List, [], ◌∷◌, ◌++◌, length, Option, Some}
use Rattle.std.specs.Prelude.{None}
use Rattle.std.specs.Prelude.{if◌then◌else◌, is_some, map, nat_le, nat_lt, unwrap_or}
use Rattle.std.specs.FinMap.{get, insert, contains_key}
use Rattle.std.specs.List.{enumerate_from}
use Rattle.std.specs.Option.{option_map, option_map_or}
use Rattle.busdma_machine.specs.declared.bounce.hold.HubCall.TheVariants.{Grab}
use Rattle.busdma_machine.specs.declared.bounce.hold.HubReply.{HubReply}
use Rattle.busdma_machine.specs.declared.bounce.hold.HubReply.TheVariants as reply
use Rattle.busdma_base.specs.declared.journals.answer.Answer.{Answer}
use Rattle.busdma_base.specs.declared.journals.answer.Answer.TheVariants.{Segments, InProgress, Refused}
use Rattle.busdma_machine.specs.declared.report.Errno.TheVariants.{EINVAL, ENOMEM, EFBIG}
use Rattle.busdma_machine.specs.declared.report.Judged.{Judged}
use Rattle.busdma_machine.specs.declared.report.ReportName.{ReportName}
use Rattle.busdma_machine.specs.declared.report.ReportName.TheVariants as name
use Rattle.busdma_machine.specs.declared.machine.address.Segment.{Segment}
use Rattle.busdma_machine.specs.declared.machine.bio.Bio.{Bio}
use Rattle.busdma_machine.specs.declared.machine.bio.Bio.TheVariants.{Mapped, Vector, Unmapped}
use Rattle.busdma_machine.specs.declared.machine.chunk.Chunk.{Chunk}
use Rattle.busdma_machine.specs.declared.machine.chunk.Entry.{Entry}
use Rattle.busdma_base.specs.declared.scenarios.script.Item.{Item}
use Rattle.busdma_machine.specs.declared.tags.tag.TagLimits.{TagLimits}
use Rattle.busdma_machine.specs.Bounce.AccountStep.{as_pages}
use Rattle.busdma_machine.specs.Judging.{judged}
use Rattle.busdma_machine.specs.Machine.Entry.{entries_addresses}
use Rattle.busdma_machine.specs.Machine.Spans.{bio_spans, span_addresses, span_bytes}
use Rattle.busdma_rules.specs.Iommu.Device.{device_chunks, load_frames}
use Rattle.busdma_rules.specs.Iommu.Space.{Space, entered, first_free}
use Rattle.lane_agreement.specs.View.{queued_back}
use Rattle.lane_agreement.specs.After.{addresses_of_pages}
use Rattle.busdma_base.specs.Scenarios.Queues.{queued_items}
use Rattle.busdma_rules.specs.Memory.Bios.{bio_translation, is_rounded}
use Rattle.busdma_rules.specs.Lending.Loans.{new_loan}
use Rattle.busdma_rules.specs.Memory.Translation.{Translation, physical_or_0}
use Rattle.busdma_rules.specs.Memory.Vectors.{entries_of, with_entry}
use Rattle.busdma_rules.specs.Segments.Building.{tag_placed, placed_pieces}
use Rattle.busdma_rules.specs.Segments.Chunks.{chunks_of, bounced_of, need_of}
use Rattle.busdma_rules.specs.Segments.Segmentation.{segmentation}
use Rattle.ideal_lane.specs.State.{LaneState, LaneTag, LaneMap, LaneMemory, Stage, Idle, Waiting, Loaded, Returning}
use Rattle.ideal_lane.specs.State.{WaitingLoad, named}
use Rattle.ideal_lane.specs.Asking.{Asking, Gives, Asks}
use Rattle.ideal_lane.specs.Outcomes.{Outcome, unless_busy, unless_refused}
use Rattle.ideal_lane.specs.Places.{physical, is_memory_byte, begin_of}

-- What a load names

-- what a load asks for: its bytes with their judgement, its entries and how many bytes it has, whether it must not
-- wait, and the items that its callback appends
pub record Asked : Type 0 where
  pub bio : Bio
  pub judged : Judged
  pub entries : List Entry
  pub len : ℕ
  pub nowait : Bool
  pub items : List Item

-- the byte at a place of a map's load, with this virtual address, is not the map's to load. Without a memory, a byte of
-- any memory is foreign; with one, each byte is foreign that is not the memory's own byte at this place.
abbrev pub is_foreign_to : Option LaneMemory → LaneState → ℕ → ℕ → Bool
is_foreign_to None l at va = is_memory_byte l va
is_foreign_to (Some x) l at va = not (va == begin_of x + at && nat_lt at x.len)

-- the byte at a place of the load of a bio, with this virtual address, is not the map's to load. A bio that is not
-- mapped names bytes of the driver's pages, so they are foreign to the map of a memory.
abbrev pub is_foreign_in : Bio → Option LaneMemory → LaneState → ℕ → ℕ → Bool
is_foreign_in (Mapped span) o l at va = is_foreign_to o l at va
is_foreign_in (Vector spans) o l at va = is_foreign_to o l at va
is_foreign_in (Unmapped frames off len) o l at va = is_some o

-- why a byte of a load is refused, if it is: it lies nowhere, or it is foreign to the map
abbrev pub load_refusal : Bool → Option ℕ → Option ReportName
load_refusal foreign None = Some name.Unmapped
load_refusal foreign (Some pa) = if foreign then Some name.ForeignMemory else None

-- where the bytes lie that a bio of this driver names
abbrev pub load_translation : LaneState → Bio → Translation
load_translation l b = bio_translation (physical l) b

-- the judgement of the bytes of a map's load: the first that is refused, if any, in the order of the load
abbrev pub load_judged : LaneState → ℕ → Bio → Judged
load_judged l m b =
    judged (λ x. load_refusal (is_foreign_in b (get l.mems m) l x.0 x.1) (load_translation l b x.1)) 0
    (enumerate_from 0 (span_addresses (bio_spans b)))

-- the entries of the load of a bio, in physical addresses
abbrev pub load_entries : LaneState → Bio → List Entry
load_entries l b = entries_of (is_rounded b) (load_translation l b) (bio_spans b)

-- the bytes of a load by their physical addresses, in order
abbrev pub load_addresses : LaneState → Bio → List ℕ
load_addresses l b = map (physical_or_0 (load_translation l b)) (span_addresses (bio_spans b))

-- what the load of a bio by a map asks for
abbrev pub asked : ℕ → Bio → Bool → List Item → LaneState → Asked
asked m b nowait items l = record {
  bio = b;
  judged = load_judged l m b;
  entries = load_entries l b;
  len = span_bytes (bio_spans b);
  nowait = nowait;
  items = items;
}

-- How a load is cut

-- the limits taken for a tag that does not exist
abbrev pub no_limits : TagLimits
no_limits = record {
  alignment = 1;
  boundary = 0;
  lowaddr = record { 0 = 0 };
  highaddr = record { 0 = 0 };
  maxsize = 0;
  nsegments = 0;
  maxsegsz = 1;
  flags = 0;
}

-- the limits of a map's tag, which lives as long as the map does
abbrev pub limits_of : LaneState → LaneMap → TagLimits
limits_of l o = unwrap_or (option_map (λ (t : LaneTag). t.limits) (get l.tags o.tag)) no_limits

-- the entries of a memory's load as one rounded entry, however many name its bytes
abbrev pub one_entry : List Entry → List Entry
one_entry es = with_entry true (entries_addresses es) []

-- The chunks of a load of a map. The bytes of a memory are cut as one entry, without alignment or excluded addresses,
-- so none bounces.
abbrev pub chunks_for : LaneState → LaneMap → Bool → List Entry → List Chunk
chunks_for l o memory es =
    if memory then chunks_of (record (limits_of l o) { alignment = 1 }) 0 (one_entry es)
    else chunks_of (limits_of l o) l.maxmem es

-- How a load ends

-- the driver with the map at another stage, after a load of the map has called or stored a callback
abbrev pub staged : ℕ → LaneMap → Stage → LaneState → LaneState
staged m o s l = record l { maps = insert l.maps m (record o { tried = true; stage = s }) }

-- a load that was refused is over: its map is idle again
abbrev pub ended : ℕ → LaneMap → Answer → LaneState → Outcome
ended m o a l = record { lane = staged m o Idle l; answer = a }

-- there is a memory, and it is coherent
abbrev pub is_coherent : Option LaneMemory → Bool
is_coherent None = false
is_coherent (Some x) = x.coherent

-- the map is loaded with these chunks in these pages and lends nothing, and its callback has appended the items of the
-- load at this place of the script
abbrev pub loaded : ℕ → LaneMap → ℕ → Asked → List Chunk → List Segment → List ℕ → LaneState → LaneState
loaded m o load_at x placed segments pages l = record (staged m o (Loaded (bounced_of placed) segments pages) l) {
  loans = insert l.loans m (new_loan (is_coherent (get l.mems m)) (entries_addresses x.entries));
  queue = l.queue ++ queued_items load_at x.items;
}

-- the stage of a map once these pages have joined the return queue: without a page it is idle
abbrev pub emptied : List ℕ → Stage
emptied [] = Idle
emptied (p ∷ ps) = Returning

-- the zone of a map, or 0 if it has none; then it has no pages either
abbrev pub zone_of_map : LaneMap → ℕ
zone_of_map o = unwrap_or o.zone 0

-- these pages leave the map and join the return queue
abbrev pub unpaged : ℕ → LaneMap → List ℕ → LaneState → LaneState
unpaged m o pages l = record (staged m o (emptied pages) l) {
  returns = l.returns ++ queued_back m (zone_of_map o)
      pages;
}

-- a load that has its pages ends with the segments of its chunks, or with EFBIG if they are more than the tag allows
abbrev pub finished : ℕ → LaneMap → ℕ → Asked → List Chunk → List ℕ → LaneState → Outcome
finished m o load_at x chunks pages l =
    let t : TagLimits = limits_of l o in
    let segments : List Segment = segmentation t (placed_pieces t chunks (as_pages pages)) in
    if nat_le (length segments) t.nsegments
    then record {
      lane = loaded m o load_at x (tag_placed t chunks (as_pages pages)) segments pages l;
      answer = Segments segments;
    }
    else record { lane = unpaged m o pages l; answer = Refused EFBIG }

-- what is kept of the next operation's load while it waits
abbrev pub waiting_load : LaneState → Asked → List Chunk → WaitingLoad
waiting_load l x chunks = record { load_at = l.place; bio = x.bio; items = x.items; need = need_of chunks }

-- the load after the reply to its call for pages: it gets them, waits, or is refused with ENOMEM
abbrev pub granted : ℕ → LaneMap → Asked → List Chunk → LaneState → HubReply → Outcome
granted m o x chunks l (reply.Granted pages) = finished m o l.place x chunks (addresses_of_pages pages) l
granted m o x chunks l (reply.Queued have) = record {
  lane = staged m o (Waiting (waiting_load l x chunks)) l;
  answer = InProgress have (need_of chunks);
}
granted m o x chunks l _ = ended m o (Refused ENOMEM) l

-- a load of these chunks: it ends at once if no chunk needs a bounce page, and else calls for pages
abbrev pub load_chunks : ℕ → LaneMap → Asked → List Chunk → LaneState → Asking Outcome
load_chunks m o x chunks l =
    if need_of chunks == 0 then Gives (finished m o l.place x chunks [] l)
    else Asks (Grab (named l m) (record { 0 = zone_of_map o }) (need_of chunks) x.nowait) (granted m o x chunks l)

-- the map is one of an IOMMU tag
abbrev pub is_device : LaneState → LaneMap → Bool
is_device l o = option_map_or (λ (t : LaneTag). t.device) (get l.tags o.tag) false

-- the segments of these chunks are not more than the tag allows
abbrev pub are_few : TagLimits → List Chunk → Bool
are_few t chunks = nat_le (length (segmentation t (placed_pieces t chunks []))) t.nsegments

-- the address spaces in which this tag's has one more live run, from the page `first` on, if it is kept
abbrev pub with_run : Bool → ℕ → ℕ → List ℕ → (ℕ → Space) → ℕ → Space
with_run kept t first frames spaces k =
    if kept && k == t then entered (Some first) frames (spaces k) else spaces k

-- the outcome whose driver has these address spaces
abbrev pub with_spaces : (ℕ → Space) → Outcome → Outcome
with_spaces spaces o = record { lane = record o.lane { spaces = spaces }; answer = o.answer }

-- a load takes the run of device pages that begins at `first`, and keeps it if its segments are few enough; if no run
-- is free, it is refused with ENOMEM
abbrev pub taken : ℕ → LaneMap → Asked → Option ℕ → LaneState → Outcome
taken m o x None l = ended m o (Refused ENOMEM) l
taken m o x (Some first) l =
    let chunks : List Chunk = device_chunks first 0 x.entries in
    with_spaces (with_run (are_few (limits_of l o) chunks) o.tag first (load_frames x.entries) l.spaces)
    (finished m o l.place x chunks [] l)

-- a load of a map of an IOMMU tag: its frames take the lowest free run of device pages, and each entry is one chunk. A
-- load of no byte takes no run.
abbrev pub device_load : ℕ → LaneMap → Asked → LaneState → Outcome
device_load m o x l =
    if length (load_frames x.entries) == 0 then finished m o l.place x (device_chunks 0 0 x.entries) [] l
    else taken m o x (first_free (l.spaces o.tag) (length (load_frames x.entries))) l

-- a load: its map is judged first, then its bytes, then its length; then it takes pages, and last its segments are
-- counted
abbrev pub load : ℕ → Asked → LaneState → Asking Outcome
load m x l =
    unless_busy m l (λ o.
    unless_refused x.judged l (
    if nat_lt (limits_of l o).maxsize x.len then Gives (ended m o (Refused EINVAL) l)
    else if is_device l o then Gives (device_load m o x l)
    else load_chunks m o x (chunks_for l o (contains_key l.mems m) x.entries) l))
