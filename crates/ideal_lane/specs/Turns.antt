-- The turn of a driver's side: a page goes back, an operation or an item is done, a callback is taken, or nothing can
-- be done now.
use Rattle.std.specs.Prelude.{ℕ, ◌+◌, Bool, true, false, ◌&&◌, ◌||◌, List, [], ◌∷◌, Option, Some, None, if◌then◌else◌}
use Rattle.std.specs.Prelude.{slice_get}
use Rattle.std.specs.Option.{option_map}
use Rattle.std.specs.FinMap.{get, contains_key}
use Rattle.busdma_machine.specs.declared.bounce.hold.HubCall.TheVariants as hold
use Rattle.busdma_machine.specs.declared.bounce.hold.HubReply.{HubReply}
use Rattle.busdma_machine.specs.declared.bounce.hold.HubReply.TheVariants as reply
use Rattle.busdma_base.specs.declared.journals.answer.Answer.TheVariants as answer
use Rattle.busdma_base.specs.declared.journals.journal.Did.{Did}
use Rattle.busdma_base.specs.declared.journals.journal.Did.TheVariants as did
use Rattle.busdma_base.specs.declared.journals.journal.JournalEntry.{JournalEntry}
use Rattle.busdma_base.specs.declared.journals.journal.Side.{Side}
use Rattle.busdma_base.specs.declared.journals.journal.Side.TheVariants as side
use Rattle.busdma_machine.specs.declared.machine.address.Pa.{Pa}
use Rattle.busdma_machine.specs.declared.machine.bio.Bio.{Bio}
use Rattle.busdma_machine.specs.declared.machine.bio.Bio.TheVariants as bio
use Rattle.busdma_base.specs.declared.scenarios.buffer.Buffer.{Buffer}
use Rattle.busdma_base.specs.declared.scenarios.buffer.Buffer.TheVariants as buffer
use Rattle.busdma_base.specs.declared.scenarios.script.Item.{Item}
use Rattle.busdma_base.specs.declared.scenarios.script.Item.TheVariants as item
use Rattle.busdma_base.specs.declared.scenarios.script.Op.{Op}
use Rattle.busdma_base.specs.declared.scenarios.script.Op.TheVariants as op
use Rattle.busdma_base.specs.Scenarios.Operations.{bytes_of}
use Rattle.busdma_rules.specs.Tags.LoadFlags.{load_nowait}
use Rattle.lane_agreement.specs.After.{addresses_of_pages}
use Rattle.lane_agreement.specs.View.{Return}
use Rattle.busdma_base.specs.declared.scenarios.queued.QueuedItem.{QueuedItem}
use Rattle.busdma_base.specs.Scenarios.Queues.{queue_names}
use Rattle.ideal_lane.specs.State.{LaneState, LaneMap, Stage, Idle, Waiting, Loaded, Returning, WaitingLoad}
use Rattle.ideal_lane.specs.State.{named}
use Rattle.ideal_lane.specs.Asking.{Asking, Gives, Asks, goes_on}
use Rattle.ideal_lane.specs.Outcomes.{Outcome, unless_absent}
use Rattle.ideal_lane.specs.Places.{virtual_at}
use Rattle.ideal_lane.specs.Tags as tags
use Rattle.ideal_lane.specs.Maps as maps
use Rattle.ideal_lane.specs.Memories as memories
use Rattle.ideal_lane.specs.Loads as loads
use Rattle.ideal_lane.specs.Unloads as unloads
use Rattle.ideal_lane.specs.Syncs as syncs
use Rattle.ideal_lane.specs.Accesses as accesses
use Rattle.ideal_lane.specs.Rings as rings
use Rattle.ideal_lane.specs.Sends as sends

-- what a turn answers: an entry of the journal, or that the side cannot step now, or that its script has ended
pub data Turn : Type 0 where
  Stepped : JournalEntry → Turn
  Blocked : Turn
  Ended : Turn

-- the driver after a turn, and what the turn answers
pub record Turned : Type 0 where
  pub lane : LaneState
  pub turn : Turn

-- a turn that is no step: the driver stays as it was
abbrev pub stays : Turn → LaneState → Turned
stays t l = record { lane = l; turn = t }

-- the step of a side: its outcome, with the journal's entry of what was done
abbrev pub stepped : Side → Did → Outcome → Turned
stepped s d o = record {
  lane = o.lane;
  turn = Stepped (record { actor = record { lane = record { 0 = o.lane.id }; side = s }; did = d; answer = o.answer });
}

-- The script

-- the bio of the `len` bytes from a virtual address on
abbrev pub flat_bio : ℕ → ℕ → Bio
flat_bio len va = bio.Mapped (record { va = record { 0 = va }; len = len })

-- the bytes of a buffer as a bio, or None if the memory of its place does not exist
abbrev pub bio_at : LaneState → Buffer → Option Bio
bio_at l (buffer.Flat place len) = option_map (flat_bio len) (virtual_at l place)
bio_at l (buffer.Vector spans) = Some (bio.Vector spans)
bio_at l (buffer.Mbuf chain) = Some (bio.Vector chain)
bio_at l (buffer.Bio b) = Some b
bio_at l (buffer.Send chain clusters) = Some (bio.Vector chain)

-- the load of a buffer with these flags never waits: the flags forbid it, or the buffer is a chain
abbrev pub never_waits : Buffer → ℕ → Bool
never_waits (buffer.Flat place len) flags = load_nowait flags
never_waits (buffer.Vector spans) flags = load_nowait flags
never_waits (buffer.Mbuf chain) flags = true
never_waits (buffer.Bio b) flags = load_nowait flags
never_waits (buffer.Send chain clusters) flags = true

-- the load of a buffer
abbrev pub load_buffer : ℕ → Buffer → ℕ → List Item → LaneState → Asking Outcome
load_buffer m x flags items l =
    unless_absent (bio_at l x) l (λ b. loads.load m (loads.asked m b (never_waits x flags) items l) l)

-- what an operation does
abbrev pub operation : Op → LaneState → Asking Outcome
operation (op.Tag name parent limits) l = tags.tag parent limits l
operation (op.IommuTag name limits) l = tags.iommu_tag limits l
operation (op.TagDestroy tag) l = tags.tag_destroy tag l
operation (op.Map name tag) l = maps.map tag l
operation (op.MapDestroy map) l = maps.map_destroy map l
operation (op.Dmamem name tag flags) l = memories.dmamem tag flags l
operation (op.DmamemFree mem) l = memories.dmamem_free mem l
operation (op.Load map buffer flags items) l = load_buffer map buffer flags items l
operation (op.Unload map) l = unloads.unload map l
operation (op.Sync map ops) l = syncs.sync map ops l
operation (op.SyncRange map off len ops) l = syncs.sync_range map off len ops l
operation (op.CpuRead place len) l = accesses.cpu_read place len l
operation (op.CpuWrite place bytes) l = accesses.cpu_write place (bytes_of bytes) l
operation (op.Await map) l = maps.await map l
operation (op.Ring name mem slots) l = rings.ring mem slots l
operation (op.RingPost ring slot map off len kind fill) l = rings.ring_post ring slot map off len kind fill l
operation (op.Kick ring steps) l = rings.kick ring steps l

-- a map at this stage has a load that waits
abbrev pub waits_in : Stage → Bool
waits_in Idle = false
waits_in (Waiting w) = true
waits_in (Loaded bounced segments pages) = false
waits_in Returning = false

-- a map exists and its load waits
abbrev pub is_waiting : Option LaneMap → Bool
is_waiting None = false
is_waiting (Some o) = waits_in o.stage

-- an operation cannot step: it awaits a map that exists, and whose load waits or which an item of the queue names
abbrev pub waits : Op → LaneState → Bool
waits (op.Await m) l = contains_key l.maps m && (is_waiting (get l.maps m) || queue_names m l.queue)
waits (op.Tag name parent limits) l = false
waits (op.IommuTag name limits) l = false
waits (op.TagDestroy tag) l = false
waits (op.Map name tag) l = false
waits (op.MapDestroy map) l = false
waits (op.Dmamem name tag flags) l = false
waits (op.DmamemFree mem) l = false
waits (op.Load map buffer flags items) l = false
waits (op.Unload map) l = false
waits (op.Sync map ops) l = false
waits (op.SyncRange map off len ops) l = false
waits (op.CpuRead place len) l = false
waits (op.CpuWrite place bytes) l = false
waits (op.Ring name mem slots) l = false
waits (op.RingPost ring slot map off len kind fill) l = false
waits (op.Kick ring steps) l = false

-- the driver whose script has gone on to the place after this one; no resend is due there
abbrev pub at_next : ℕ → LaneState → LaneState
at_next place l = record l { place = place + 1; due = false }

-- the step of an operation, after which the script goes on
abbrev pub advanced : ℕ → Outcome → Turned
advanced place o =
    stepped side.Script (did.Op place) (record { lane = at_next place o.lane; answer = o.answer })

-- the step of a send whose callback is kept: the script stays at it, and its resend is due
abbrev pub kept : ℕ → Outcome → Turned
kept place o =
    stepped side.Script (did.Op place) (record { lane = record o.lane { due = true }; answer = o.answer })

-- the step of an operation: the script stays at a send whose callback is kept, and goes on after any other
abbrev pub went_on : Op → ℕ → Outcome → Turned
went_on op place o = if sends.is_kept (sends.send_of op) o.answer then kept place o else advanced place o

-- the turn of the next operation, if there is one and it need not wait
abbrev pub next_operation : Option Op → LaneState → Asking Turned
next_operation None l = Gives (stays Ended l)
next_operation (Some o) l = if waits o l then Gives (stays Blocked l) else goes_on (went_on o l.place) (operation o l)

-- the step of a resend, after which the script goes on
abbrev pub resent : ℕ → Outcome → Turned
resent place o =
    stepped side.Script (did.Again place) (record { lane = at_next place o.lane; answer = o.answer })

-- the turn of the resend that is due, or else of the next operation
abbrev pub due_turn : Option sends.Send → LaneState → Asking Turned
due_turn None l = next_operation (slice_get l.script l.place) l
due_turn (Some s) l = goes_on (resent l.place) (sends.resend s l)

-- how many maps a release has completed, by its reply
abbrev pub maps_completed : HubReply → ℕ
maps_completed (reply.Served n) = n
maps_completed _ = 0

-- the step by which the first page of the return queue goes back to its zone
abbrev pub release : Return → List Return → LaneState → Asking Turned
release r rest l =
    let page : Pa = record { 0 = r.page } in
    Asks (hold.Release (named l r.map) (record { 0 = r.zone }) page) (λ got.
    stepped side.Script (did.Release (named l r.map) page)
    (record { lane = unloads.given_back r rest l; answer = answer.Served (maps_completed got) }))

-- The turn of the script. It does one thing: it returns the first page of the return queue, or else makes the resend
-- that is due, or else does the next operation.
abbrev pub script_turn : List Return → LaneState → Asking Turned
script_turn [] l = due_turn (sends.due_send l) l
script_turn (r ∷ rest) l = release r rest l

-- The device

-- what an item does
abbrev pub transfer : Item → LaneState → Asking Outcome
transfer (item.Sync map ops) l = syncs.sync map ops l
transfer (item.SyncRange map off len ops) l = syncs.sync_range map off len ops l
transfer (item.DevRead map off len) l = accesses.dev_read map off len l
transfer (item.DevWrite map off bytes) l = accesses.dev_write map off (bytes_of bytes) l
transfer (item.DevReadAt tag addr len) l = accesses.dev_read_at tag addr len l
transfer (item.DevWriteAt tag addr bytes) l = accesses.dev_write_at tag addr (bytes_of bytes) l
transfer (item.RingStep ring) l = rings.ring_step ring l

-- the step of an item, after which it has left the queue
abbrev pub left_queue : QueuedItem → List QueuedItem → Outcome → Turned
left_queue q rest o =
    stepped side.Transfer (did.Item q.load_at q.place)
    (record { lane = record o.lane { queue = rest }; answer = o.answer })

-- the turn of the transfer queue: its first item is done, if there is one
abbrev pub transfer_turn : List QueuedItem → LaneState → Asking Turned
transfer_turn [] l = Gives (stays Blocked l)
transfer_turn (q ∷ rest) l = goes_on (left_queue q rest) (transfer q.item l)

-- Callbacks

-- the load that waited has its pages, and its callback is called; its bytes have not moved while it waited
abbrev pub called_at : ℕ → LaneMap → WaitingLoad → List ℕ → LaneState → Outcome
called_at m o w pages l =
    let x : loads.Asked = loads.asked m w.bio false w.items l in
    loads.finished m o w.load_at x (loads.chunks_for l o (contains_key l.mems m) x.entries) pages l

-- no callback was called: the account replies only with maps that wait, so this does not come about
abbrev pub uncalled : LaneState → Outcome
uncalled l = record { lane = l; answer = answer.Done }

-- the callback of a map at this stage, which has the pages of its load
abbrev pub called_in : ℕ → LaneMap → Stage → List ℕ → LaneState → Outcome
called_in m o Idle pages l = uncalled l
called_in m o (Waiting w) pages l = called_at m o w pages l
called_in m o (Loaded bounced segments held) pages l = uncalled l
called_in m o Returning pages l = uncalled l

-- the callback of a map, if it exists, with the pages of its load
abbrev pub called : ℕ → Option LaneMap → List ℕ → LaneState → Outcome
called m None pages l = uncalled l
called m (Some o) pages l = called_in m o o.stage pages l

-- the turn of the callbacks by the reply to its call: a step if a callback came, and else Blocked
abbrev pub called_back : LaneState → HubReply → Turned
called_back l (reply.Called m pages) =
    stepped side.Callback (did.Callback m) (called m.made_at (get l.maps m.made_at) (addresses_of_pages pages) l)
called_back l _ = stays Blocked l

-- the turn of the callbacks: the callback at the head of the callback list is called, if it is this driver's
abbrev pub callback_turn : LaneState → Asking Turned
callback_turn l = Asks hold.TakeCallback (called_back l)

-- the turn of a side: the script, the device or the callbacks
abbrev pub lane_step : LaneState → Side → Asking Turned
lane_step l side.Script = script_turn l.returns l
lane_step l side.Transfer = transfer_turn l.queue l
lane_step l side.Callback = callback_turn l
