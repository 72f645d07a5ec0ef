use Rattle.bounce_hub.specs.Seen.{door}
use Rattle.bus_dma.specs.State.{state}
use Rattle.lane_state.specs.Served.{IsServed}
use Rattle.bus_dma_tests.proofs.tests.opened.make_all.Given as goal

abbrev pub invariant-loop-row : goal.invariant-loop-row
invariant-loop-row g l = IsServed (state l.driver) (door l.hub)
