use Rattle.std.proofs.Common.{◌≡◌, true, length}
use Rattle.busdma_machine.specs.Bounce.Door.{Seen}
use Rattle.ideal_lane.specs.State.{LaneState}
use Rattle.lane_state.specs.Served.{IsServed}
use Rattle.bus_dma.specs.Returns.{IsReturned, is_at_end}
use Rattle.bus_dma.specs.State.{state}
use Rattle.bus_dma.proofs.driver.DmaDriver.give_back.Given as goal

-- what goes back from here goes back from the start
abbrev pub invariant-loop-self : goal.invariant-loop-self
invariant-loop-self g l = record {
  served : IsServed (state l.self) (g.D.HubDoor.seen l.door);
  ended : is_at_end (state l.self) ≡ true;
  fixed : g.D.HubDoor.fixed l.door ≡ g.D.HubDoor.fixed l.initial.door;
  rest : (n : LaneState) (e : Seen) →
      IsReturned (state l.self).returns (g.D.HubDoor.seen l.door) (state l.self) n e →
      IsReturned (state l.initial.self).returns (g.D.HubDoor.seen l.initial.door) (state l.initial.self) n e;
}

abbrev pub decreases-loop-self : goal.decreases-loop-self
decreases-loop-self g l = length (state l.self).returns
