-- The wires of all drivers of a world: the bytes that the frames and the bounce pages of each really hold.
use Rattle.std.specs.Prelude.{◌≡◌, ◌≢◌, ℕ, true, Some, slice_get}
use Rattle.busdma_base.specs.declared.journals.journal.Actor.{Actor}
use Rattle.busdma_base.specs.Scenarios.PageRuns.{is_own}
use Rattle.busdma_machine.specs.Machine.Wire.{Wire}
use Rattle.ideal_lane.specs.State.{LaneState}
use Rattle.ideal_wire.specs.Centre.{IsFaithful}
use Rattle.ideal_wire.specs.WireStep.{Follows, wire_lane_step}
use Rattle.ideal_world.specs.World.{WorldState, step}

-- the wire of each driver, by its number
abbrev pub Wires : Type 0
Wires = ℕ → Wire

-- this holds of each driver of a world, with its number
abbrev pub EachDriver : (ℕ → LaneState → Type 0) → WorldState → Type 0
EachDriver P w = (i : ℕ) (l : LaneState) → slice_get w.lanes i ≡ Some l → P i l

-- the wire of each driver has zeros in all pages of the driver
abbrev pub AreZero : Wires → WorldState → Type 0
AreZero wires w = EachDriver (λ i l. (a : ℕ) → is_own l.pages a ≡ true → wires i a ≡ 0) w

-- each driver's wire is faithful to its ideal memory
abbrev pub AllFaithful : Wires → WorldState → Type 0
AllFaithful wires w = EachDriver (λ i l. IsFaithful l (wires i)) w

-- what an actor's turn makes of the wires: the wire of its driver follows the turn, with pages and frames of memories
-- that come and go, and every other wire stays
pub record WiresFollow (w : WorldState) (actor : Actor) (before after : Wires) : Type 0 where
  pub own : (l m : LaneState) → slice_get w.lanes actor.lane.0 ≡ Some l →
      slice_get (step w actor).world.lanes actor.lane.0 ≡ Some m →
      Follows l m (wire_lane_step l actor.side (before actor.lane.0)) (after actor.lane.0)
  pub others : (i : ℕ) → i ≢ actor.lane.0 → after i ≡ before i
