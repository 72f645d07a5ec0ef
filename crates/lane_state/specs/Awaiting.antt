-- What a load that waits keeps until its callback, so that the callback takes no memory.
use Rattle.std.specs.Prelude.{◌≡◌, ℕ, ◌||◌, Bool, true, false, List, Option, Some, None, IfSome, is_some, unwrap_or}
use Rattle.std.specs.List.{All}
use Rattle.std.specs.Option.{option_map}
use Rattle.std.specs.Ordering.{nat_cmp}
use Rattle.std.specs.FinMap.{FinMap, get}
use Rattle.busdma_machine.specs.declared.machine.bio.Bio.{Bio}
use Rattle.busdma_machine.specs.declared.machine.chunk.Entry.{Entry}
use Rattle.busdma_machine.specs.declared.tags.tag.TagLimits.{TagLimits}
use Rattle.busdma_machine.specs.Bounce.MemoryRuns.{in_run}
use Rattle.busdma_machine.specs.Machine.Entry.{entries_addresses}
use Rattle.busdma_machine.specs.Machine.Spans.{bio_spans}
use Rattle.busdma_base.specs.declared.scenarios.scenario.PageRun.{PageRun}
use Rattle.busdma_base.specs.Scenarios.PageRuns.{is_own}
use Rattle.dma_map.specs.declared.room.LoadRoom.{LoadRoom}
use Rattle.dma_map.specs.MapView.{held_waiting_load}
use Rattle.busdma_rules.specs.Memory.Bios.{is_rounded}
use Rattle.busdma_rules.specs.Lending.Loans.{Loan, Loans, loan_of, new_loan}
use Rattle.busdma_rules.specs.Memory.Vectors.{entries_of}
use Rattle.busdma_rules.specs.Segments.Chunks.{chunks_of}
use Rattle.ideal_lane.specs.Loads.{no_limits}
use Rattle.ideal_wire.specs.Laid.{AreInPages, in_pages}
use Rattle.lane_state.specs.declared.kept.KeptLoad.{KeptLoad}
use Rattle.lane_state.specs.declared.kept.KeptMap.{KeptMap}
use Rattle.lane_state.specs.declared.kept.KeptMemory.{KeptMemory}
use Rattle.lane_state.specs.declared.kept.KeptTag.{KeptTag}
use Rattle.lane_state.specs.Loading.{HasRoomForAny, IsLoadable, bio_of}

-- the load that a map keeps while it waits: the place of the load in the script, its callback and its room
abbrev pub kept_load : Option KeptMap → Option (ℕ × KeptLoad × LoadRoom)
kept_load None = None
kept_load (Some o) = held_waiting_load o.map.stage

-- the limits of the tag that was made at a place, if the tag exists
abbrev pub limits_at : FinMap nat_cmp KeptTag → ℕ → Option TagLimits
limits_at tags place = option_map (λ (t : KeptTag). t.tag) (get tags place)

-- the entries of a bio of these pages; its bytes are there, whatever memories come and go
abbrev pub page_entries : List PageRun → Bio → List Entry
page_entries pages b = entries_of (is_rounded b) (in_pages pages b) (bio_spans b)

-- a load that waits has what its callback needs: its bytes are bytes of the pages; its map has a tag; the room is
-- enough for the segments of the bytes by that tag, in whichever pages; and the loan that is prepared for the map has
-- these bytes
pub record IsAwaitingNow (pages : List PageRun) (maxmem : ℕ) (tag : Option TagLimits) (loan : Option Loan)
    (w : KeptLoad) (room : LoadRoom) : Type 0 where
  pub loadable : IsLoadable pages (bio_of w.bytes)
  pub paged : AreInPages pages (bio_of w.bytes)
  pub tagged : is_some tag ≡ true
  pub fits : HasRoomForAny (unwrap_or tag no_limits)
      (chunks_of (unwrap_or tag no_limits) maxmem (page_entries pages (bio_of w.bytes))) w.need room
  pub prepared : loan ≡ Some (new_loan false (entries_addresses (page_entries pages (bio_of w.bytes))))

-- the load for which a map waits, with its room and the limits of the map's tag
abbrev pub awaited_map : FinMap nat_cmp KeptTag → Option KeptMap → Option (KeptLoad × LoadRoom × Option TagLimits)
awaited_map tags None = None
awaited_map tags (Some o) =
    option_map (λ (w : ℕ × KeptLoad × LoadRoom). (w.1, w.2, limits_at tags o.tag)) (held_waiting_load o.map.stage)

-- each load that waits has what its callback needs
abbrev pub AreAwaiting : List PageRun → ℕ → FinMap nat_cmp KeptTag → FinMap nat_cmp KeptMap → Loans → Type 0
AreAwaiting pages maxmem tags maps prepared = (m : ℕ) →
    IfSome (awaited_map tags (get maps m)) (λ w. IsAwaitingNow pages maxmem w.2 (get prepared m) w.0 w.1)

-- whether a byte may be loaded into a map: it is one of the driver's pages, or of the memory whose map it is
abbrev pub awaits_map : List PageRun → Option KeptMemory → ℕ → Bool
awaits_map pages None a = is_own pages a
awaits_map pages (Some x) a = is_own pages a || in_run x.first.0 x.count a

-- each loan that is prepared for a map has only bytes that may be loaded into the map
abbrev pub AreOfMaps : List PageRun → FinMap nat_cmp KeptMemory → Loans → Type 0
AreOfMaps pages memories prepared = (m : ℕ) →
    All (λ p. awaits_map pages (get memories m) p.pa ≡ true) (loan_of prepared m).positions
