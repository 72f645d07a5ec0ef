-- What a door to the bounce lock means, and what a call at it does.
use Rattle.std.specs.Prelude.{◌≡◌, ℕ, ◌+◌, Bool, false, List, [], ◌∷◌, ◌++◌, All, IsTrue, length, Option, Some, None}
use Rattle.std.specs.Prelude.{slice_index_or}
use Rattle.busdma_machine.specs.declared.name.MapId.{MapId}
use Rattle.busdma_machine.specs.declared.bounce.hold.HubCall.{HubCall}
use Rattle.busdma_machine.specs.declared.bounce.hold.HubCall.TheVariants.{TakeCallback}
use Rattle.busdma_machine.specs.declared.bounce.hold.HubReply.{HubReply}
use Rattle.busdma_machine.specs.declared.bounce.hold.HubReply.TheVariants.{Nothing, Granted, Queued, NoPages, Run}
use Rattle.busdma_machine.specs.declared.bounce.hold.HubReply.TheVariants.{NoRun}
use Rattle.busdma_machine.specs.declared.bounce.hold.HoldEntry.{HoldEntry}
use Rattle.busdma_machine.specs.declared.bounce.door.Grabbed.{Grabbed}
use Rattle.busdma_machine.specs.declared.bounce.door.Grabbed.TheVariants.{Granted as GrantedPages}
use Rattle.busdma_machine.specs.declared.bounce.door.Grabbed.TheVariants.{Queued as QueuedPages}
use Rattle.busdma_machine.specs.declared.bounce.door.Grabbed.TheVariants.{NoPages as NoPagesFree}
use Rattle.busdma_machine.specs.Bounce.Account.{Account}
use Rattle.busdma_machine.specs.Bounce.AccountStep.{account_step, as_pages}
use Rattle.busdma_machine.specs.Bounce.Conditions.{MayCall}
use Rattle.busdma_machine.specs.Bounce.History.{IsOpening, IsSound, account_of}
use Rattle.busdma_machine.specs.Bounce.MemoryRuns.{frames_of}
use Rattle.busdma_machine.specs.Machine.PageList.{RoomyPages, page_addresses}

-- the account that a door began with, the holds that it has seen, and the lanes that it serves
pub record Seen : Type 0 where
  pub opening : Account
  pub history : List HoldEntry
  pub serves : ℕ → Bool

-- the account after all holds that the door has seen
abbrev pub account : Seen → Account
account d = account_of d.opening d.history

-- a lane may make a call at the door: the door serves the lane, its history is sound, and the account allows the call
pub record Allows (d : Seen) (lane : ℕ) (c : HubCall) : Type 0 where
  pub served : IsTrue (d.serves lane)
  pub sound : IsSound d.opening d.history
  pub may : MayCall lane c (account d)

-- the history grew by holds of lanes that the door does not serve, and nothing else changed
pub record Passes (d : Seen) (others : List HoldEntry) (e : Seen) : Type 0 where
  pub opening : e.opening ≡ d.opening
  pub form : IsOpening e.opening
  pub serves : e.serves ≡ d.serves
  pub apart : All (λ h. d.serves h.lane.0 ≡ false) others
  pub history : e.history ≡ d.history ++ others
  pub sound : IsSound e.opening e.history

-- the call was made: the door's new history is the old one, then holds of lanes that the door does not serve, then the
-- call with the account's reply
pub record HoldsAtDoor (d : Seen) (lane : ℕ) (c : HubCall) (r : HubReply) (e : Seen) : Type 0 where
  pub between : Seen
  pub others : List HoldEntry
  pub passes : Passes d others between
  pub reply : r ≡ (account_step lane c (account between)).reply
  pub opening : e.opening ≡ between.opening
  pub serves : e.serves ≡ between.serves
  pub history : e.history ≡ between.history ++ record { lane = record { 0 = lane }; call = c; reply = r } ∷ []
  pub sound : IsSound e.opening e.history

-- a lane asked for a callback and got none: the callback list was empty, or its first map was another lane's
pub record Misses (d : Seen) (lane : ℕ) (e : Seen) : Type 0 where
  pub others : List HoldEntry
  pub passes : Passes d others e
  pub reply : (account_step lane TakeCallback (account e)).reply ≡ Nothing

-- memory ran out and the call was not made; only holds of lanes that the door does not serve may have been added
pub record FailsAtDoor (d e : Seen) : Type 0 where
  pub others : List HoldEntry
  pub passes : Passes d others e

-- the reply in the history to a request for pages, from the answer that the lane gets
abbrev pub grab_reply : Grabbed → HubReply
grab_reply (GrantedPages pages) = Granted (as_pages (page_addresses pages.items))
grab_reply (QueuedPages have) = Queued have
grab_reply NoPagesFree = NoPages

-- the reply in the history to the making of a memory, from the pages that the lane gets or their absence
abbrev pub memory_reply : Option RoomyPages → HubReply
memory_reply None = NoRun
memory_reply (Some pages) = Run (record { 0 = slice_index_or (page_addresses pages.items) 0 0 }) (length pages.items)

-- the frames at these addresses follow one another in memory
abbrev pub IsRow : List ℕ → Type 0
IsRow [] = Unit {0}
IsRow (f ∷ []) = Unit {0}
IsRow (f ∷ g ∷ fs) = (g ≡ f + 4096) × IsRow (g ∷ fs)

-- the pages are those of a memory, by the account
abbrev pub ArePagesOf : MapId → List ℕ → Seen → Type 0
ArePagesOf m pages d = pages ≡ frames_of m (account d).mems
