-- What a hub must satisfy as the object of a turnstile.
use Rattle.std.specs.Prelude.{◌≡◌, ℕ, ◌+◌, ◌≤◌, List, [], ◌∷◌, ◌++◌, length, IfOk, OnErr, IfSome, MatchOption}
use Rattle.busdma_machine.specs.declared.bounce.hold.HubCall.{HubCall}
use Rattle.busdma_machine.specs.declared.bounce.hold.HubCall.TheVariants as hub
use Rattle.busdma_machine.specs.declared.bounce.hold.HubReply.{HubReply}
use Rattle.busdma_machine.specs.declared.bounce.hold.HubReply.TheVariants as said
use Rattle.busdma_machine.specs.declared.bounce.hold.HoldEntry.{HoldEntry}
use Rattle.busdma_machine.specs.Bounce.Account.{Account}
use Rattle.busdma_machine.specs.Bounce.AccountStep.{account_step}
use Rattle.busdma_machine.specs.Bounce.Conditions.{MayCall}
use Rattle.busdma_machine.specs.Bounce.Door.{IsRow, grab_reply, memory_reply}
use Rattle.busdma_machine.specs.Bounce.History.{IsOpening, IsSound, account_of}
use Rattle.busdma_machine.specs.Bounce.MemoryRuns.{frames_of}
use Rattle.busdma_machine.specs.Machine.PageList.{RoomyPages, page_address, page_addresses}
use Rattle.lane_threads.specs.declared.call.DoorCall.{DoorCall}
use Rattle.lane_threads.specs.declared.call.DoorCall.TheVariants as call
use Rattle.lane_threads.specs.declared.call.DoorReply.{DoorReply}
use Rattle.lane_threads.specs.declared.call.DoorReply.TheVariants as reply
use Rattle.lane_threads.specs.Calls.{hub_call, lane_of, called_reply}

-- the opening account may begin a history, and the history is sound
pub record IsLegalHistory (opening : Account) (history : List HoldEntry) : Type 0 where
  pub form : IsOpening opening
  pub sound : IsSound opening history

-- an entry is of the lane whose pass has this name
abbrev pub IsOfName : ℕ → HoldEntry → Type 0
IsOfName name e = e.lane.0 + 1 ≡ name

-- the pages that a call gives back are exactly those of the memory
abbrev pub GivesBack : DoorCall → Account → Type 0
GivesBack (call.MemFree mem pages) a = page_addresses pages.items ≡ frames_of mem a.mems
GivesBack _ a = Unit {0}

-- the call is of the lane whose pass has this name, and the account of the history allows it
pub record MayAct (opening : Account) (history : List HoldEntry) (name : ℕ) (c : DoorCall) : Type 0 where
  pub lane : lane_of c + 1 ≡ name
  pub may : MayCall (lane_of c) (hub_call c) (account_of opening history)
  pub pages : GivesBack c (account_of opening history)

-- the call of a lane added one entry of its own, whose reply is the account's
pub record IsEntered (o : Account) (before : List HoldEntry) (lane : ℕ) (c : HubCall) (r : HubReply)
    (after : List HoldEntry) : Type 0 where
  pub reply : r ≡ (account_step lane c (account_of o before)).reply
  pub entry : after ≡ before ++ record { lane = record { 0 = lane }; call = c; reply = r } ∷ []

-- the head of the callback list was no map of the lane, and no entry was added
pub record IsMissed (o : Account) (before : List HoldEntry) (lane : ℕ) (after : List HoldEntry) : Type 0 where
  pub reply : (account_step lane hub.TakeCallback (account_of o before)).reply ≡ said.Nothing
  pub same : after ≡ before

-- the frames of a memory follow one another, and are at most as many as a machine has
pub record AreInRow (pages : RoomyPages) : Type 0 where
  pub row : IsRow (page_addresses pages.items)
  pub few : length pages.items ≤ 8192

-- the reply is to the call of the same name, and says what the call added to the history; if memory ran out, nothing
-- was added
abbrev pub Answers : Account → List HoldEntry → ℕ → DoorCall → DoorReply → List HoldEntry → Type 0
Answers o before name (call.AttachTag alloc lane tag) (reply.AttachTag r) after =
    IfOk r (λ g. IsEntered o before lane.0 (hub.AttachTag tag) (said.Grown g) after)
    × OnErr r (after ≡ before)
Answers o before name (call.CreateMap alloc map tag first_done) (reply.CreateMap r) after =
    IfOk r (λ g. IsEntered o before map.lane.0 (hub.CreateMap map tag first_done) (said.Grown g) after)
    × OnErr r (after ≡ before)
Answers o before name (call.DestroyMap map zone) reply.DestroyMap after =
    IsEntered o before map.lane.0 (hub.DestroyMap map zone) said.Nothing after
Answers o before name (call.Grab alloc map zone need nowait) (reply.Grab r) after =
    IfOk r (λ g. IsEntered o before map.lane.0 (hub.Grab map zone need nowait) (grab_reply g) after)
    × OnErr r (after ≡ before)
Answers o before name (call.Release map zone page) (reply.Release moved) after =
    IsEntered o before map.lane.0 (hub.Release map zone (record { 0 = page_address page })) (said.Served moved) after
Answers o before name (call.TakeCallback lane) (reply.TakeCallback r) after =
    MatchOption r (IsMissed o before lane.0 after)
    (λ c. IsEntered o before lane.0 hub.TakeCallback (called_reply c) after)
Answers o before name (call.MemAlloc alloc mem tag) (reply.MemAlloc r) after =
    IfOk r (λ g. IsEntered o before mem.lane.0 (hub.MemAlloc mem tag) (memory_reply g) after × IfSome g AreInRow)
    × OnErr r (after ≡ before)
Answers o before name (call.MemFree mem pages) reply.MemFree after =
    IsEntered o before mem.lane.0 (hub.MemFree mem) said.Nothing after
Answers o before name _ _ after = ⊥
