-- The ideal state of a driver. Its ideal memory has one byte for each physical address of its own; its bounce pages
-- hold no bytes of their own. This project's own.
use Rattle.std.specs.Prelude.{ℕ, Bool, List, [], Option}
use Rattle.std.specs.Ordering.{nat_cmp}
use Rattle.std.specs.FinMap.{FinMap}
use Rattle.busdma_machine.specs.declared.machine.address.Segment.{Segment}
use Rattle.busdma_machine.specs.declared.machine.bio.Bio.{Bio}
use Rattle.busdma_machine.specs.declared.machine.chunk.Chunk.{Chunk}
use Rattle.busdma_machine.specs.declared.name.MapId.{MapId}
use Rattle.busdma_base.specs.declared.scenarios.scenario.PageRun.{PageRun}
use Rattle.busdma_base.specs.declared.scenarios.script.Item.{Item}
use Rattle.busdma_base.specs.declared.scenarios.script.Op.{Op}
use Rattle.busdma_machine.specs.declared.tags.tag.TagLimits.{TagLimits}
use Rattle.busdma_rules.specs.Iommu.Space.{Space}
use Rattle.lane_agreement.specs.View.{Return}
use Rattle.busdma_base.specs.declared.scenarios.queued.QueuedItem.{QueuedItem}
use Rattle.busdma_rules.specs.Lending.Loans.{Loans}
use Rattle.ideal_lane.specs.IdealMemory.{IdealMemory}

-- a tag: its effective limits, whether its first allocation is done, and whether its device is behind an IOMMU
pub record LaneTag : Type 0 where
  pub limits : TagLimits
  pub first_done : Bool
  pub device : Bool

-- a load that waits for pages: its place in the script, its bytes, the items that its callback appends, and how many
-- pages it needs. After the map of bus_dma(9), which keeps the memory and the callback of a deferred load.
pub record WaitingLoad : Type 0 where
  pub load_at : ℕ
  pub bio : Bio
  pub items : List Item
  pub need : ℕ

-- the stage of a map: it has no load; its load waits; it is loaded, with the bounced chunks, the segments, and the
-- bounce pages in the order of the chunks; or its pages are on their way back
pub data Stage : Type 0 where
  Idle : Stage
  Waiting : WaitingLoad → Stage
  Loaded : (bounced : List Chunk) → (segments : List Segment) → (pages : List ℕ) → Stage
  Returning : Stage

-- a map: the place of its tag, the zone of its bounce pages if its tag could bounce, whether a load of it has called or
-- stored a callback, and its stage
pub record LaneMap : Type 0 where
  pub tag : ℕ
  pub zone : Option ℕ
  pub tried : Bool
  pub stage : Stage

-- a dmamem memory: the place of its tag, the physical address of its first byte, how many frames it has, how many bytes
-- the driver reaches, and whether driver and device see the same bytes without a sync
pub record LaneMemory : Type 0 where
  pub tag : ℕ
  pub first : ℕ
  pub count : ℕ
  pub len : ℕ
  pub coherent : Bool

-- a ring of descriptors: the place of its memory, in whose first bytes it lies, how many slots of 16 bytes it has, and
-- the slot that is fetched next
pub record LaneRing : Type 0 where
  pub mem : ℕ
  pub slots : ℕ
  pub head : ℕ

-- A driver: its number, the end of the machine's memory in frames, its script and the place in it, whether the resend
-- of the send at this place is due, and its pages; its tags, maps, memories and rings by the places that made them (the
-- map of a memory has the memory's place); its ideal memory and what its loaded maps lend; its transfer queue and its
-- return queue; its share of each zone's total_bounced; and the address space of each IOMMU tag, by the place that made
-- the tag.
pub record LaneState : Type 0 where
  pub id : ℕ
  pub maxmem : ℕ
  pub script : List Op
  pub place : ℕ
  pub due : Bool
  pub pages : List PageRun
  pub tags : FinMap nat_cmp LaneTag
  pub maps : FinMap nat_cmp LaneMap
  pub mems : FinMap nat_cmp LaneMemory
  pub rings : FinMap nat_cmp LaneRing
  pub memory : IdealMemory
  pub loans : Loans
  pub queue : List QueuedItem
  pub returns : List Return
  pub shares : ℕ → ℕ
  pub spaces : ℕ → Space

-- the name of what the driver made at a place
abbrev pub named : LaneState → ℕ → MapId
named l k = record { lane = record { 0 = l.id }; made_at = k }

-- the address space taken for a tag that has none: no page and no run
abbrev pub no_space : Space
no_space = record { pages = 0; runs = [] }
