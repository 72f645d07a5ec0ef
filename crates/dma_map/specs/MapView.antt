-- What contracts see of a map.
use Rattle.std.specs.Prelude.{ℕ, Bool, List, [], ◌∷◌, Option, Some, None}
use Rattle.busdma_machine.specs.declared.machine.chunk.Chunk.{Chunk}
use Rattle.busdma_machine.specs.declared.machine.address.Segment.{Segment}
use Rattle.busdma_machine.specs.declared.name.MapId.{MapId}
use Rattle.busdma_machine.specs.declared.name.ZoneId.{ZoneId}
use Rattle.busdma_machine.specs.Machine.Page.{FrameBytes}
use Rattle.busdma_machine.specs.Machine.PageList.{RoomyPages, page_frames}
use Rattle.dma_map.specs.declared.room.LoadRoom.{LoadRoom}
use Rattle.dma_map.specs.declared.state.MapState.{MapState}
use Rattle.dma_map.specs.declared.state.MapState.TheVariants.{Idle, Waiting, Loaded, Returning}

-- what a map holds: nothing; the place of the load that waits, its callback and its room; the bounced chunks, segments
-- and bounce pages of its load; the same with the frames of its pages while these are lent out; or nothing, while its
-- pages are on their way back
pub data HeldStage (C : Type 0) : Type 0 where
  idle : HeldStage C
  waiting : ℕ → C → LoadRoom → HeldStage C
  loaded : List Chunk → List Segment → RoomyPages → HeldStage C
  lent : List Chunk → List Segment → List ℕ → HeldStage C
  returning : HeldStage C

-- a map by its name, the zone of its bounce pages, whether a load of it has called or stored a callback, and what it
-- holds
pub record MapView (C : Type 0) : Type 0 where
  pub id : MapId
  pub zone : Option ZoneId
  pub tried : Bool
  pub stage : HeldStage C

-- the stage of a map that gave these pages away to be released: returning, or idle if there are no pages
abbrev pub left_by : {C : Type 0} → List FrameBytes → HeldStage C
left_by [] = idle
left_by (p ∷ ps) = returning

module _ {C : Type 0} where
  -- the state of a map that holds this
  abbrev pub state_of : HeldStage C → MapState
  state_of idle = Idle
  state_of (waiting at callback room) = Waiting
  state_of (loaded bounced segments pages) = Loaded
  state_of (lent bounced segments frames) = Loaded
  state_of returning = Returning

  -- the load that waits, if one does
  abbrev pub held_waiting_load : HeldStage C → Option (ℕ × C × LoadRoom)
  held_waiting_load idle = None
  held_waiting_load (waiting at callback room) = Some (at, callback, room)
  held_waiting_load (loaded bounced segments pages) = None
  held_waiting_load (lent bounced segments frames) = None
  held_waiting_load returning = None

  -- the bounced chunks of a map's load, or none if it has no load that ended
  abbrev pub held_chunks : HeldStage C → List Chunk
  held_chunks idle = []
  held_chunks (waiting at callback room) = []
  held_chunks (loaded bounced segments pages) = bounced
  held_chunks (lent bounced segments frames) = bounced
  held_chunks returning = []

  -- the segments of a map's load, or none if it has no load that ended
  abbrev pub segments_of : HeldStage C → List Segment
  segments_of idle = []
  segments_of (waiting at callback room) = []
  segments_of (loaded bounced segments pages) = segments
  segments_of (lent bounced segments frames) = segments
  segments_of returning = []

  -- the bounce pages of a map's load, if the map has them
  abbrev pub held_pages_of : HeldStage C → Option RoomyPages
  held_pages_of idle = None
  held_pages_of (waiting at callback room) = None
  held_pages_of (loaded bounced segments pages) = Some pages
  held_pages_of (lent bounced segments frames) = None
  held_pages_of returning = None

  -- the frames of a map's bounce pages, while these are lent out
  abbrev pub lent_frames : HeldStage C → Option (List ℕ)
  lent_frames idle = None
  lent_frames (waiting at callback room) = None
  lent_frames (loaded bounced segments pages) = None
  lent_frames (lent bounced segments frames) = Some frames
  lent_frames returning = None

  -- a map's load with these pages
  abbrev pub with_pages : RoomyPages → HeldStage C → HeldStage C
  with_pages pages stage = loaded (held_chunks stage) (segments_of stage) pages

  -- a map's load while these pages are lent out
  abbrev pub without_pages : List FrameBytes → HeldStage C → HeldStage C
  without_pages pages stage = lent (held_chunks stage) (segments_of stage) (page_frames pages)
