-- The part of a driver's state that the account of all drivers bears on.
use Rattle.std.specs.Prelude.{ℕ, List, Option, Some, None}
use Rattle.std.specs.FinMap.{get}
use Rattle.busdma_machine.specs.Bounce.MemoryRuns.{frames_from}
use Rattle.lane_agreement.specs.View.{View, OwnMap}
use Rattle.lane_agreement.specs.View as view
use Rattle.ideal_lane.specs.State.{LaneState, LaneMap, LaneMemory, Stage, Idle, Waiting, Loaded, Returning}
use Rattle.busdma_base.specs.Scenarios.PageRuns.{is_own}

-- the stage of a map as the account sees it: only its need and its pages
abbrev pub stage_of : Stage → view.SeenStage
stage_of Idle = view.Idle
stage_of (Waiting w) = view.Waiting w.need
stage_of (Loaded bounced segments pages) = view.Loaded pages
stage_of Returning = view.Returning

-- a map as the account sees it: with its zone, or not at all if it has none
abbrev pub in_zone : Stage → Option ℕ → Option OwnMap
in_zone s None = None
in_zone s (Some z) = Some (record { zone = z; stage = stage_of s })

-- the account's view of a map, if the map exists
abbrev pub own_map : Option LaneMap → Option OwnMap
own_map None = None
own_map (Some o) = in_zone o.stage o.zone

-- the frames of a memory, if it exists
abbrev pub own_frames : Option LaneMemory → Option (List ℕ)
own_frames None = None
own_frames (Some x) = Some (frames_from x.count x.first)

-- the driver as the account sees it
abbrev pub view_of : LaneState → View
view_of l = record {
  id = l.id;
  maxmem = l.maxmem;
  map_at = λ k. own_map (get l.maps k);
  mem_at = λ k. own_frames (get l.mems k);
  returns = l.returns;
  own_frame = is_own l.pages;
}
