-- What a driver keeps at each turn; and the entry of its step names the driver and its side.
use Rattle.std.proofs.Common.{◌≡◌, ℕ, ◌+◌, ◌≤◌, ◌==◌, Bool, true, false, if◌then◌else◌, List, Option, Some, None, refl}
use Rattle.std.proofs.Common.{ap, arith, min}
use Rattle.busdma_machine.specs.declared.bounce.hold.HubCall.{HubCall}
use Rattle.busdma_machine.specs.declared.bounce.hold.HubReply.{HubReply}
use Rattle.busdma_base.specs.declared.journals.journal.Actor.{Actor}
use Rattle.busdma_base.specs.declared.journals.journal.Side.{Side}
use Rattle.busdma_base.specs.declared.journals.journal.Side.TheVariants as side
use Rattle.busdma_base.specs.declared.scenarios.scenario.PageRun.{PageRun}
use Rattle.busdma_base.specs.declared.scenarios.script.Op.{Op}
use Rattle.ideal_lane.specs.State.{LaneState}
use Rattle.ideal_lane.specs.Asking.{by_reply}
use Rattle.ideal_lane.specs.Outcomes.{Outcome}
use Rattle.ideal_lane.specs.Sends.{Send, copied}
use Rattle.ideal_lane.specs.Syncs.{copies, counted, greatest_share}
use Rattle.ideal_lane.specs.Turns.{Turn, Turned, Stepped, Blocked, Ended, lane_step}
use Rattle.ideal_lane.proofs.Effects.{Work, Touches, Syncs, Makes, Touched, IsStay, NothingLeft, Steps, Stays, Advances}
use Rattle.ideal_lane.proofs.Effects.{Leaves}
use Rattle.ideal_lane.proofs.Effects.{Releases, Calls, Declines, Keeps, Resends}
use Rattle.ideal_lane.proofs.Stepping.{turn-steps}

-- the actor of a driver's side
abbrev pub actor_of : Side → ℕ → Actor
actor_of s id = record { lane = record { 0 = id }; side = s }

-- an entry of a turn names the driver and its side
abbrev pub IsOwnBy : ℕ → Side → Turn → Type 0
IsOwnBy id s (Stepped entry) = entry.actor ≡ actor_of s id
IsOwnBy id s Blocked = Unit {0}
IsOwnBy id s Ended = Unit {0}

-- what a driver keeps at each turn: its number, its script and its pages; and for each zone it counts at most one more
-- sync
pub record Kept (l : LaneState) (id : ℕ) (script : List Op) (pages : List PageRun) (shares : ℕ → ℕ) : Type 0 where
  pub same_id : id ≡ l.id
  pub same_script : script ≡ l.script
  pub same_pages : pages ≡ l.pages
  pub few : (z : ℕ) → shares z ≤ l.shares z + 1

-- a driver's state after a turn
abbrev pub IsLater : LaneState → LaneState → Type 0
IsLater l m = Kept l m.id m.script m.pages m.shares

-- a turn leaves a later state of the driver, and its entry is the driver's
pub record IsOwn (l : LaneState) (s : Side) (t : Turned) : Type 0 where
  pub later : IsLater l t.lane
  pub actor : IsOwnBy l.id s t.turn

-- a sync counts at most once
counted-once : (copied : Bool) (zone : Option ℕ) (shares : ℕ → ℕ) (y : ℕ) → counted copied zone shares y ≤ shares y + 1
counted-once copied None shares y = omega arith
counted-once false (Some z) shares y = omega arith
counted-once true (Some z) shares y = by (y == z)
  where
    by : (b : Bool) → (if b then min (shares y + 1) greatest_share else shares y) ≤ shares y + 1
    by true = omega arith
    by false = omega arith

module _ (l : LaneState) where
  still : IsLater l l
  still = record { same_id = refl; same_script = refl; same_pages = refl; few = λ z. omega arith }

  -- each effect leaves a later state of the driver
  touches-later : {d : Work} {x : Outcome} → Touches l d x → IsLater l x.lane
  touches-later (Syncs m off len ops is o e i alone fine) = record {
    same_id = refl;
    same_script = refl;
    same_pages = refl;
    few = counted-once (copies off len ops o.stage) o.zone l.shares;
  }
  touches-later _ = still

  makes-later : {d : Work} {c : Option HubCall} {r : HubReply} {x : Outcome} → Makes l d c r x → IsLater l x.lane
  makes-later (Touched t) = touches-later t
  makes-later _ = still

module _ (l : LaneState) where
  -- the entry of a turn names a driver with the same number
  names : (s : Side) (n : LaneState) → IsLater l n → actor_of s n.id ≡ actor_of s l.id
  names s n h = ap (actor_of s) h.same_id

  -- a later state than after the copy of a send is a later state than before it
  uncopied : (s : Send) (n : LaneState) → IsLater (copied s l) n → IsLater l n
  uncopied s n h =
      record { same_id = h.same_id; same_script = h.same_script; same_pages = h.same_pages; few = h.few }

  stays-own : (s : Side) {c : Option HubCall} {r : HubReply} {t : Turn} → IsStay c r t → IsOwnBy l.id s t
  stays-own s NothingLeft = tt
  stays-own s _ = tt

  steps-own : {s : Side} {c : Option HubCall} {r : HubReply} {t : Turned} → Steps l s c r t → IsOwn l s t
  steps-own {s} (Stays t is) = record { later = still l; actor = stays-own s is }
  steps-own (Advances {x = x} o at free m) =
      let h = makes-later l m in record { later = h; actor = names side.Script x.lane h }
  steps-own (Keeps {x = x} o at free s is big held m) =
      let h = makes-later l m in record { later = h; actor = names side.Script x.lane h }
  steps-own (Declines s now x declined) = record { later = still l; actor = refl }
  steps-own (Resends {x = x} s now k untold m) =
      let h = uncopied s x.lane (makes-later (copied s l) m) in record { later = h; actor = names side.Script x.lane h }
  steps-own (Leaves {x = x} q rest e m) =
      let h = touches-later l m in record { later = h; actor = names side.Transfer x.lane h }
  steps-own (Releases q rest e None there) = record { later = still l; actor = refl }
  steps-own (Releases q rest e (Some o) there) = record { later = still l; actor = refl }
  steps-own (Calls {x = x} m pages k) =
      let h = makes-later l k in record { later = h; actor = names side.Callback x.lane h }

  pub turn-own : (s : Side) (r : HubReply) → IsOwn l s (by_reply (lane_step l s) r)
  turn-own s r = steps-own (turn-steps l s r)
