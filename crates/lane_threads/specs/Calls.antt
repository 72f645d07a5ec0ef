-- The entry that the history has of a call at the door of a lane and of its reply.
use Rattle.std.specs.Prelude.{ℕ}
use Rattle.busdma_machine.specs.declared.bounce.hold.HubCall.{HubCall}
use Rattle.busdma_machine.specs.declared.bounce.hold.HubCall.TheVariants as hub
use Rattle.busdma_machine.specs.declared.bounce.hold.HubReply.{HubReply}
use Rattle.busdma_machine.specs.declared.bounce.hold.HubReply.TheVariants as said
use Rattle.busdma_machine.specs.declared.bounce.door.Called.{Called}
use Rattle.busdma_machine.specs.Bounce.AccountStep.{as_pages}
use Rattle.busdma_machine.specs.Machine.PageList.{page_address, page_addresses}
use Rattle.lane_threads.specs.declared.call.DoorCall.{DoorCall}
use Rattle.lane_threads.specs.declared.call.DoorCall.TheVariants.{AttachTag, CreateMap, DestroyMap, Grab}
use Rattle.lane_threads.specs.declared.call.DoorCall.TheVariants.{Release, TakeCallback, MemAlloc, MemFree}

-- the history's call: without the memory that it takes, and without the bytes of its pages
abbrev pub hub_call : DoorCall → HubCall
hub_call (AttachTag alloc lane tag) = hub.AttachTag tag
hub_call (CreateMap alloc map tag first_done) = hub.CreateMap map tag first_done
hub_call (DestroyMap map zone) = hub.DestroyMap map zone
hub_call (Grab alloc map zone need nowait) = hub.Grab map zone need nowait
hub_call (Release map zone page) = hub.Release map zone (record { 0 = page_address page })
hub_call (TakeCallback lane) = hub.TakeCallback
hub_call (MemAlloc alloc mem tag) = hub.MemAlloc mem tag
hub_call (MemFree mem pages) = hub.MemFree mem

-- the lane that makes this call
abbrev pub lane_of : DoorCall → ℕ
lane_of (AttachTag alloc lane tag) = lane.0
lane_of (CreateMap alloc map tag first_done) = map.lane.0
lane_of (DestroyMap map zone) = map.lane.0
lane_of (Grab alloc map zone need nowait) = map.lane.0
lane_of (Release map zone page) = map.lane.0
lane_of (TakeCallback lane) = lane.0
lane_of (MemAlloc alloc mem tag) = mem.lane.0
lane_of (MemFree mem pages) = mem.lane.0

-- the history's reply when a callback was taken
abbrev pub called_reply : Called → HubReply
called_reply c = said.Called c.map (as_pages (page_addresses c.pages.items))
