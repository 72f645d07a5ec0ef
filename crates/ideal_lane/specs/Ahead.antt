-- How many items a driver's transfer queue may still get.
use Rattle.std.specs.Prelude.{ℕ, ◌+◌, length, drop}
use Rattle.std.specs.Ordering.{nat_cmp}
use Rattle.std.specs.FinMap.{FinMap, entries}
use Rattle.std.specs.List.{sum_by}
use Rattle.busdma_base.specs.Scenarios.Operations.{items_of}
use Rattle.ideal_lane.specs.State.{LaneState, LaneMap, Stage, Idle, Waiting, Loaded, Returning}

-- how many items the load has for which a map at this stage waits
abbrev pub awaited_items : Stage → ℕ
awaited_items Idle = 0
awaited_items (Waiting w) = length w.items
awaited_items (Loaded bounced segments pages) = 0
awaited_items Returning = 0

-- how many items the loads have for which these maps wait
abbrev pub maps_items : FinMap nat_cmp LaneMap → ℕ
maps_items maps = sum_by (λ e. awaited_items e.1.stage) (entries maps)

-- how many items may still join the queue: the items of the operations that are not yet done, and of the loads that
-- wait
abbrev pub items_ahead : LaneState → ℕ
items_ahead l = sum_by (λ o. length (items_of o)) (drop l.place l.script) + maps_items l.maps
