use Rattle.bus_dma.specs.State.{state}
use Rattle.lane_state.specs.Served.{IsServed}
use Rattle.drivers_on_threads.proofs.second.await_callback.Given as goal

abbrev pub invariant-loop : goal.invariant-loop
invariant-loop g l = IsServed (state l.driver) (g.D.HubDoor.seen l.door)
