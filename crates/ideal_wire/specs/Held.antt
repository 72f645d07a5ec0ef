-- What a driver holds of the machine's memory.
use Rattle.std.specs.Prelude.{◌≡◌, ℕ, ◌==◌, ◌++◌, Bool, true, false, List, Some, map}
use Rattle.std.specs.FinMap.{get}
use Rattle.std.specs.List.{filter}
use Rattle.std.specs.Option.{option_map_or}
use Rattle.busdma_machine.specs.Bounce.MemoryRuns.{in_run}
use Rattle.busdma_base.specs.Scenarios.PageRuns.{is_own}
use Rattle.busdma_rules.specs.Segments.Segmentation.{segment_bytes}
use Rattle.ideal_lane.specs.State.{LaneState, LaneMap, LaneMemory}
use Rattle.ideal_lane.specs.Unloads.{pages_of, segments_in}
use Rattle.ideal_wire.specs.Answered.{found_at}
use Rattle.ideal_wire.specs.Traces.{is_in_pages, stage_at}

-- the ways in which a driver holds a byte: by its pages, by one of its memories, or by one of its maps
pub data Holder : Type 0 where
  ItsPages : Holder
  ItsMemory : (place : ℕ) → Holder
  ItsMap : (place : ℕ) → Holder

-- the bounce pages of a map: the pages that it has, and its pages in the return queue
abbrev pub bounce_pages : LaneState → ℕ → List ℕ
bounce_pages l m = pages_of (stage_at l m) ++ map (λ r. r.page) (filter (λ r. r.map == m) l.returns)

-- a driver holds a byte in this way: the byte is in its pages, in the frames of this memory, or in the bounce pages of
-- this map
abbrev pub holds : LaneState → Holder → ℕ → Bool
holds l ItsPages a = is_own l.pages a
holds l (ItsMemory k) a = option_map_or (λ (x : LaneMemory). in_run x.first x.count a) (get l.mems k) false
holds l (ItsMap m) a = is_in_pages (bounce_pages l m) a

-- a driver holds a byte in some way
pub record IsHeld (l : LaneState) (a : ℕ) : Type 0 where
  pub by : Holder
  pub held : holds l by a ≡ true

-- the bus addresses that the segments of a map's load name, in order; a map that is not loaded has none
abbrev pub named_addresses : LaneMap → List ℕ
named_addresses o = segment_bytes (segments_in o.stage)

-- the device of a map finds, at a bus address, a byte that the driver holds
pub record FindsHeld (l : LaneState) (o : LaneMap) (bus : ℕ) : Type 0 where
  pub byte : ℕ
  pub found : found_at l o bus ≡ Some byte
  pub held : IsHeld l byte
