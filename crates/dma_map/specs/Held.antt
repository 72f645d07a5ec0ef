-- How a map stores what contracts see of it.
use Rattle.dma_map.specs.declared.map.Held.{Held}
use Rattle.dma_map.specs.declared.map.Held.TheVariants.{Idle, Waiting, Loaded, Lent, Returning}
use Rattle.busdma_machine.specs.Machine.PageList.{page_frames}
use Rattle.dma_map.specs.MapView.{HeldStage, idle, waiting, loaded, lent, returning}

-- what contracts see of what a map stores
abbrev pub held_stage : {C : Type 0} → Held C → HeldStage C
held_stage Idle = idle
held_stage (Waiting at callback room) = waiting at callback room
held_stage (Loaded load pages) = loaded load.bounced load.segments pages
held_stage (Lent load pages) = lent load.bounced load.segments (page_frames pages.value.items)
held_stage Returning = returning
