-- What the parts of a driver's holdings say of each other.
use Rattle.std.specs.Prelude.{◌≡◌, ℕ, ◌/◌, ◌≤◌, ◌==◌, Bool, true, false, ◌||◌, not, List, sum_by, drop}
use Rattle.std.specs.Prelude.{length, Option, Some, None}
use Rattle.std.specs.Prelude.{if◌then◌else◌}
use Rattle.std.specs.List.{list_any}
use Rattle.std.specs.Ordering.{nat_cmp}
use Rattle.std.specs.FinMap.{FinMap, get, contains_key, entries}
use Rattle.busdma_base.specs.declared.scenarios.scenario.PageRun.{PageRun}
use Rattle.busdma_base.specs.declared.scenarios.script.Op.{Op}
use Rattle.busdma_base.specs.Scenarios.PageRuns.{physical_in}
use Rattle.busdma_base.specs.Scenarios.PageRuns as pages
use Rattle.busdma_base.specs.Scenarios.Operations.{items_of}
use Rattle.lane_state.specs.declared.kept.KeptLoad.{KeptLoad}
use Rattle.dma_map.specs.MapView as held
use Rattle.lane_tables.specs.declared.queued.QueuedPage.{QueuedPage}
use Rattle.busdma_rules.specs.Lending.Loans.{Loans}
use Rattle.memory_pages.specs.Placed.{IsMemoryPlaced}
use Rattle.phys_memory.specs.Memory.{FrameMemory, memory_has_frame, memory_physical}
use Rattle.ideal_lane.specs.Outcomes.{is_idle, is_loaded}
use Rattle.ideal_lane.specs.Places.{is_in_memory, physical_of}
use Rattle.ideal_lane.specs.State.{Stage, Idle, Waiting, Loaded, Returning}
use Rattle.lane_state.specs.declared.kept.KeptMap.{KeptMap}
use Rattle.lane_state.specs.declared.kept.KeptMemory.{KeptMemory}
use Rattle.lane_state.specs.Kept.{map_of, memory_of, due_of}
use Rattle.lane_state.specs.Kept as kept

-- the table of Known and Unknown bytes has exactly the bytes of the driver's frames
abbrev pub IsCovered : FrameMemory → FinMap nat_cmp Bool → Type 0
IsCovered m bytes = (a : ℕ) → contains_key bytes a ≡ memory_has_frame m (a / 4096)

-- the memory has all frames of the driver's pages
abbrev pub HasFramesOf : List PageRun → FrameMemory → Type 0
HasFramesOf runs m = (f : ℕ) → pages.has_frame runs f ≡ true → memory_has_frame m f ≡ true

-- the physical address of a virtual one: by the driver's pages if they have it, or else by its memories
abbrev pub reached_in : Option ℕ → FinMap nat_cmp KeptMemory → ℕ → Option ℕ
reached_in (Some pa) memories va = Some pa
reached_in None memories va =
    if list_any (λ e. is_in_memory va (memory_of e.1)) (entries memories) then Some (physical_of va) else None

-- the driver reaches the bytes of its pages and of its memories, and no others
abbrev pub Reaches : List PageRun → FinMap nat_cmp KeptMemory → FrameMemory → Type 0
Reaches pages memories m = (va : ℕ) → memory_physical m va ≡ reached_in (physical_in pages va) memories va

-- each memory is in its frames, which follow one another
abbrev pub AreStanding : FinMap nat_cmp KeptMemory → FrameMemory → Type 0
AreStanding memories m = (k : ℕ) (x : KeptMemory) → get memories k ≡ Some x → IsMemoryPlaced m x.first.0 x.count
    x.memory.len

-- a map exists and is loaded
abbrev pub has_load : Option KeptMap → Bool
has_load None = false
has_load (Some o) = is_loaded (map_of o).stage

-- a map exists and is idle
abbrev pub is_idle_map : Option KeptMap → Bool
is_idle_map None = false
is_idle_map (Some o) = is_idle (map_of o).stage

-- the pages of a map in this state are on their way back
abbrev pub returns_in : Stage → Bool
returns_in Idle = false
returns_in (Waiting w) = false
returns_in (Loaded bounced segments pages) = false
returns_in Returning = true

-- a map exists and its pages are on their way back
abbrev pub is_covered_returning : Option KeptMap → Bool
is_covered_returning None = false
is_covered_returning (Some o) = returns_in (map_of o).stage

-- a load of a map has called or stored a callback, unless the map is idle
abbrev pub is_tried : Option KeptMap → Bool
is_tried None = true
is_tried (Some o) = is_idle (map_of o).stage || o.map.tried

-- the maps that lend bytes are those that are loaded
abbrev pub AreCoveredLoads : FinMap nat_cmp KeptMap → Loans → Type 0
AreCoveredLoads maps loans = (k : ℕ) → contains_key loans k ≡ has_load (get maps k)

-- the pages of a map in this state are lent out for an access or a copy
abbrev pub is_lent : held.HeldStage KeptLoad → Bool
is_lent held.idle = false
is_lent (held.waiting load_at callback room) = false
is_lent (held.loaded bounced segments pages) = false
is_lent (held.lent bounced segments frames) = true
is_lent held.returning = false

-- the pages of a map, if there is one, are lent out for an access or a copy
abbrev pub lends_pages : Option KeptMap → Bool
lends_pages None = false
lends_pages (Some o) = is_lent o.map.stage

-- how many pages the maps will give to the return queue, beside those that are in it
abbrev pub pages_due : FinMap nat_cmp KeptMap → ℕ
pages_due maps = sum_by (λ e. due_of e.1) (entries maps)

-- how many items the callbacks of the loads that wait will append
abbrev pub items_due : FinMap nat_cmp KeptMap → ℕ
items_due maps = sum_by (λ e. kept.kept_items e.1) (entries maps)

-- the pages of the return queue are those of maps of the driver of this number
abbrev pub AreOwn : ℕ → List QueuedPage → Type 0
AreOwn lane pages = list_any (λ q. not (q.map.lane.0 == lane)) pages ≡ false

-- the pages of the return queue are of maps whose pages are on their way back
abbrev pub AreReturning : FinMap nat_cmp KeptMap → List QueuedPage → Type 0
AreReturning maps pages = list_any (λ q. not (is_covered_returning (get maps q.map.made_at))) pages ≡ false

-- nothing was made at this place of the script or later
abbrev pub IsVacantFrom : {X : Type 0} → ℕ → FinMap nat_cmp X → Type 0
IsVacantFrom place made = (p : ℕ) → place ≤ p → contains_key made p ≡ false

-- how many items the operations from this place of the script on have
abbrev pub items_left : ℕ → List Op → ℕ
items_left place script = sum_by (λ o. length (items_of o)) (drop place script)
