-- A hub at which another driver acts beside the driver whose calls are made at a door.
use Rattle.std.specs.Prelude.{◌≡◌, ◌==◌, ℕ, List, ◌++◌, All}
use Rattle.busdma_machine.specs.declared.bounce.hold.HoldEntry.{HoldEntry}
use Rattle.busdma_machine.specs.Bounce.Door.{Seen}
use Rattle.bounce_hub.specs.Seen.{HubSeen}

-- what the door of one lane has seen of a hub
abbrev pub seen_by : ℕ → HubSeen → Seen
seen_by lane h = record { opening = h.opening; history = h.history; serves = λ l. l == lane }

-- the lane of a door, and its hub
pub record Beside : Type 0 where
  pub lane : ℕ
  pub hub : HubSeen

-- what the door of this lane has seen of its hub
abbrev pub seen : Beside → Seen
seen b = seen_by b.lane b.hub

-- at a hub, exactly entries of this lane came next
pub record Comes (lane : ℕ) (h g : HubSeen) : Type 0 where
  pub entries : List HoldEntry
  pub own : All (λ e. e.lane.0 ≡ lane) entries
  pub opening : g.opening ≡ h.opening
  pub history : g.history ≡ h.history ++ entries
