-- What is known of the hub after all passes were joined.
use Rattle.std.specs.Prelude.{◌≡◌, ◌+◌, ◌<◌, ◌==◌, ℕ, List, ◌∷◌, ◌++◌, All, Contains, Some}
use mathlib.Core.List.{IsPrefix}
use Rattle.busdma_machine.specs.declared.bounce.hold.HoldEntry.{HoldEntry}
use Rattle.busdma_machine.specs.Bounce.Account.{Account}
use Rattle.busdma_machine.specs.Bounce.Door.{Seen, Passes}
use Rattle.busdma_machine.specs.Bounce.LaneEntries.{of_lane}
use Rattle.bounce_hub.specs.Seen.{HubSeen}
use Rattle.turnstile.specs.declared.view.Start.{Start}
use Rattle.turnstile.specs.Pass.{PassView, own_calls}
use Rattle.lane_threads.specs.Object.{IsLegalHistory}
use Rattle.lane_threads.specs.PassDoor.{seen}

-- what contracts see of the pass of a lane
abbrev pub LanePass : Type 0
LanePass = PassView HoldEntry Account

-- the pass, with this count of the passes that were split off from it
abbrev pub with_splits : ℕ → LanePass → LanePass
with_splits count pass = record pass { splits = count }

-- a pass was joined to this one, which knows the turns of that pass, and that it ended after its calls
pub record IsJoined (into pass : LanePass) : Type 0 where
  pub begins : IsPrefix pass.front into.front
  pub ended : Contains into.ended (pass.name, own_calls pass)

-- the passes were joined to the old one, which is now the new one
pub record Joins (old : LanePass) (passes : List LanePass) (new : LanePass) : Type 0 where
  pub turnstile : new.turnstile ≡ old.turnstile
  pub start : new.start ≡ old.start
  pub name : new.name ≡ old.name
  pub begins : IsPrefix old.front new.front
  pub own : own_calls new ≡ own_calls old
  pub each : All (IsJoined new) passes

-- what the door of a pass's lane sees of a hub
abbrev pub hub_seen : LanePass → HubSeen → Seen
hub_seen pass hub = record { opening = hub.opening; history = hub.history; serves = λ lane. lane + 1 == pass.name }

-- of the lane of a pass, the history has exactly the entries that it began with and then the pass's own calls
abbrev pub HasOwnCalls : List HoldEntry → List HoldEntry → LanePass → Type 0
HasOwnCalls opening history pass =
    (lane : ℕ) → lane + 1 ≡ pass.name → of_lane lane history ≡ of_lane lane opening ++ own_calls pass

-- since what a pass of this turnstile knew, only holds of other lanes came
abbrev pub OthersCame : LanePass → HubSeen → LanePass → Type 0
OthersCame first hub pass =
    pass.start ≡ first.start → (others : List HoldEntry) × Passes (seen pass) others (hub_seen pass hub)

-- the hub's history is legal, begins with the history of the start, and continues with entries of lanes whose passes
-- have names; of the lane of each pass it has that pass's own calls
pub record ClosesAfter (first : LanePass) (passes : List LanePass) (hub : HubSeen) : Type 0 where
  pub start : Start HoldEntry Account
  pub started : first.start ≡ Some start
  pub opening : hub.opening ≡ start.fixed
  pub legal : IsLegalHistory hub.opening hub.history
  pub added : List HoldEntry
  pub begins : hub.history ≡ start.opening ++ added
  pub drivers : All (λ hold. hold.lane.0 + 1 < start.names) added
  pub own : All (HasOwnCalls start.opening hub.history) (first ∷ passes)
  pub others : All (OthersCame first hub) (first ∷ passes)
