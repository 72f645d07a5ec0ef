-- What the tags, maps, memories, rings and shares that a driver keeps mean to the ideal driver.
use Rattle.std.specs.Prelude.{ℕ, ◌*◌, ◌==◌, List, [], ◌∷◌, map, length, Option, Some, None, if◌then◌else◌, is_some}
use Rattle.std.specs.Prelude.{unwrap_or}
use Rattle.std.specs.FinMap.{FinMap, get}
use Rattle.std.specs.Option.{option_map}
use Rattle.std.specs.Ordering.{nat_cmp}
use Rattle.busdma_machine.specs.declared.machine.chunk.Chunk.{Chunk}
use Rattle.busdma_machine.specs.Machine.Page.{FrameBytes}
use Rattle.busdma_machine.specs.Machine.PageList.{page_address, page_addresses}
use Rattle.lane_state.specs.declared.kept.KeptLoad.{KeptLoad}
use Rattle.dma_map.specs.MapView as held
use Rattle.busdma_rules.specs.Iommu.Space.{Space}
use Rattle.lane_agreement.specs.View.{Return}
use Rattle.lane_tables.specs.declared.queued.QueuedPage.{QueuedPage}
use Rattle.ideal_lane.specs.State.{LaneTag, LaneMap, LaneMemory, LaneRing, Stage, Idle, Waiting, Loaded, Returning}
use Rattle.ideal_lane.specs.State.{WaitingLoad, no_space}
use Rattle.lane_state.specs.declared.kept.KeptTag.{KeptTag}
use Rattle.lane_state.specs.declared.kept.KeptMap.{KeptMap}
use Rattle.lane_state.specs.declared.kept.KeptMemory.{KeptMemory}
use Rattle.lane_state.specs.declared.kept.KeptRing.{KeptRing}
use Rattle.lane_state.specs.declared.kept.KeptShare.{KeptShare}
use Rattle.lane_state.specs.Loading.{bio_of}

-- the ideal tag: its effective limits, whether its first allocation is done, and whether its device is behind an IOMMU
abbrev pub tag_of : KeptTag → LaneTag
tag_of t = record { limits = t.tag; first_done = t.first_done; device = is_some t.space }

-- the address space of a tag's device, which is empty if the device is not behind an IOMMU
abbrev pub space_of : Option KeptTag → Space
space_of None = no_space
space_of (Some t) = unwrap_or t.space no_space

-- the address spaces of tags, by the places that made the tags
abbrev pub spaces_of : FinMap nat_cmp KeptTag → ℕ → Space
spaces_of tags k = space_of (get tags k)

-- the ideal waiting load, by its place in the script and what its map keeps
abbrev pub waits_of : ℕ → KeptLoad → WaitingLoad
waits_of at w = record { load_at = at; bio = bio_of w.bytes; items = w.items; need = w.need }

-- the ideal stage of a map; pages that are lent out are still the map's
abbrev pub kept_stage : held.HeldStage KeptLoad → Stage
kept_stage held.idle = Idle
kept_stage (held.waiting load_at callback room) = Waiting (waits_of load_at callback)
kept_stage (held.loaded bounced segments pages) = Loaded bounced segments (page_addresses pages.items)
kept_stage (held.lent bounced segments frames) = Loaded bounced segments (map (λ f. 4096 * f) frames)
kept_stage held.returning = Returning

-- the ideal map
abbrev pub map_of : KeptMap → LaneMap
map_of o = record {
  tag = o.tag;
  zone = option_map (λ z. z.0) o.map.zone;
  tried = o.map.tried;
  stage = kept_stage o.map.stage;
}

-- the ideal memory object of a dmamem memory
abbrev pub memory_of : KeptMemory → LaneMemory
memory_of x = record {
  tag = x.tag;
  first = x.first.0;
  count = x.count;
  len = x.memory.len;
  coherent = x.memory.coherent;
}

-- the ideal ring
abbrev pub kept_ring : KeptRing → LaneRing
kept_ring r = record { mem = r.mem; slots = r.slots; head = r.head }

-- the ideal entry of a page in the return queue
abbrev pub return_of : QueuedPage → Return
return_of q = record { map = q.map.made_at; zone = q.zone.0; page = page_address q.page }

-- the pages of the return queue, with the bytes that they hold
abbrev pub kept_pages_in : List QueuedPage → List FrameBytes
kept_pages_in returns = map (λ q. q.page) returns

-- a driver's share of the copying syncs of a zone, or 0 if none is kept
abbrev pub kept_share : List KeptShare → ℕ → ℕ
kept_share [] z = 0
kept_share (s ∷ shares) z = if z == s.zone.0 then s.count else kept_share shares z

-- what the load of a map has beside its buffer: its bounced chunks, and its bounce pages with the bytes that they hold
pub record Device : Type 0 where
  pub chunks : List Chunk
  pub pages : List FrameBytes

-- the chunks and pages of a map without a load, or with one that waits or has ended: none
abbrev pub no_device : Device
no_device = record { chunks = []; pages = [] }

-- the bounced chunks and bounce pages of a map in this state
abbrev pub device_in : held.HeldStage KeptLoad → Device
device_in held.idle = no_device
device_in (held.waiting load_at callback room) = no_device
device_in (held.loaded bounced segments pages) = record { chunks = bounced; pages = pages.items }
device_in (held.lent bounced segments frames) = record { chunks = bounced; pages = [] }
device_in held.returning = no_device

-- the bounced chunks and bounce pages of a map, or none if there is no map
abbrev pub device_of : Option KeptMap → Device
device_of None = no_device
device_of (Some o) = device_in o.map.stage

-- how many pages a map in this state will give to the return queue: those that it holds, or the need of its waiting
-- load
abbrev pub due_in : held.HeldStage KeptLoad → ℕ
due_in held.idle = 0
due_in (held.waiting load_at callback room) = callback.need
due_in (held.loaded bounced segments pages) = length pages.items
due_in (held.lent bounced segments frames) = length frames
due_in held.returning = 0

-- how many pages a map will give to the return queue
abbrev pub due_of : KeptMap → ℕ
due_of o = due_in o.map.stage

-- how many items the callback of a map in this state will append
abbrev pub kept_items_in : held.HeldStage KeptLoad → ℕ
kept_items_in held.idle = 0
kept_items_in (held.waiting load_at callback room) = length callback.items
kept_items_in (held.loaded bounced segments pages) = 0
kept_items_in (held.lent bounced segments frames) = 0
kept_items_in held.returning = 0

-- how many items the callback of a map will append
abbrev pub kept_items : KeptMap → ℕ
kept_items o = kept_items_in o.map.stage
