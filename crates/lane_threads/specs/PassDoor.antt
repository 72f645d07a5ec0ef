-- What the door of a lane has seen, by what its pass knows, and what a call at it does.
use Rattle.std.specs.Prelude.{◌+◌, ◌==◌, ℕ, List, [], IfOk, OnErr, IfSome, MatchOption, Option, Some, None}
use Rattle.busdma_machine.specs.declared.bounce.hold.HubCall.TheVariants as hub
use Rattle.busdma_machine.specs.declared.bounce.hold.HubReply.TheVariants as said
use Rattle.busdma_machine.specs.declared.bounce.hold.HoldEntry.{HoldEntry}
use Rattle.busdma_machine.specs.Bounce.Account.{Account, no_account}
use Rattle.busdma_machine.specs.Bounce.Door.{Seen, HoldsAtDoor, FailsAtDoor, Misses, grab_reply, memory_reply}
use Rattle.busdma_machine.specs.Machine.PageList.{page_address}
use Rattle.atomic_table.specs.Seated.{TableId}
use Rattle.turnstile.specs.declared.view.Start.{Start}
use Rattle.turnstile.specs.Pass.{PassView}
use Rattle.turnstile.specs.Start.{history_after}
use Rattle.lane_threads.specs.declared.call.DoorCall.{DoorCall}
use Rattle.lane_threads.specs.declared.call.DoorCall.TheVariants as call
use Rattle.lane_threads.specs.declared.call.DoorReply.{DoorReply}
use Rattle.lane_threads.specs.declared.call.DoorReply.TheVariants as reply
use Rattle.lane_threads.specs.Calls.{called_reply}
use Rattle.lane_threads.specs.Object.{AreInRow}

-- what the door of a pass of this name has seen if the pass knows these turns; it serves the lane whose number is one
-- less
abbrev pub seen_from : Option (Start HoldEntry Account) → ℕ → List (ℕ × HoldEntry) → Seen
seen_from None name turns = record { opening = no_account; history = []; serves = λ lane. lane + 1 == name }
seen_from (Some start) name turns =
    record { opening = start.fixed; history = history_after start turns; serves = λ lane. lane + 1 == name }

-- what the door of a pass has seen: the history that the pass knows, and the one lane that it serves
abbrev pub seen : PassView HoldEntry Account → Seen
seen pass = seen_from pass.start pass.name pass.front

-- which pass a door has: its turnstile, how that started, and its name
pub record Place : Type 0 where
  pub turnstile : TableId
  pub start : Option (Start HoldEntry Account)
  pub name : ℕ

-- which pass this is, by what contracts see of it
abbrev pub door_place : PassView HoldEntry Account → Place
door_place pass = record { turnstile = pass.turnstile; start = pass.start; name = pass.name }

-- the place of no pass, for a type that needs a value
abbrev pub no_place : Place
no_place = record {
  turnstile = record { words = 0; slots = 0; views_name = 0; atom = 0; block = 0; offset = 0; slot_names = [] };
  start = None;
  name = 0;
}

-- the reply is to the call of the same name, and says what the call did: its hold, or that memory ran out, or that
-- there was no callback
abbrev pub Replied : Seen → DoorCall → DoorReply → Seen → Type 0
Replied d (call.AttachTag alloc lane tag) (reply.AttachTag r) e =
    IfOk r (λ g. HoldsAtDoor d lane.0 (hub.AttachTag tag) (said.Grown g) e) × OnErr r (FailsAtDoor d e)
Replied d (call.CreateMap alloc map tag first_done) (reply.CreateMap r) e =
    IfOk r (λ g. HoldsAtDoor d map.lane.0 (hub.CreateMap map tag first_done) (said.Grown g) e)
    × OnErr r (FailsAtDoor d e)
Replied d (call.DestroyMap map zone) reply.DestroyMap e =
    HoldsAtDoor d map.lane.0 (hub.DestroyMap map zone) said.Nothing e
Replied d (call.Grab alloc map zone need nowait) (reply.Grab r) e =
    IfOk r (λ g. HoldsAtDoor d map.lane.0 (hub.Grab map zone need nowait) (grab_reply g) e) × OnErr r (FailsAtDoor d e)
Replied d (call.Release map zone page) (reply.Release moved) e =
    HoldsAtDoor d map.lane.0 (hub.Release map zone (record { 0 = page_address page })) (said.Served moved) e
Replied d (call.TakeCallback lane) (reply.TakeCallback r) e =
    MatchOption r (Misses d lane.0 e) (λ c. HoldsAtDoor d lane.0 hub.TakeCallback (called_reply c) e)
Replied d (call.MemAlloc alloc mem tag) (reply.MemAlloc r) e =
    IfOk r (λ g. HoldsAtDoor d mem.lane.0 (hub.MemAlloc mem tag) (memory_reply g) e × IfSome g AreInRow)
    × OnErr r (FailsAtDoor d e)
Replied d (call.MemFree mem pages) reply.MemFree e = HoldsAtDoor d mem.lane.0 (hub.MemFree mem) said.Nothing e
Replied d _ _ e = ⊥
