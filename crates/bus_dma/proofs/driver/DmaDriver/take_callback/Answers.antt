use Rattle.lane_core.specs.LaneIdeal.{lane_turned}
use Rattle.lane_turns.specs.TakenTurns.{is_held}
use Rattle.bus_dma.specs.State.{state}
use Rattle.bus_dma.proofs.TurnLaws.{callback-ended}
use Rattle.bus_dma.proofs.driver.DmaDriver.take_callback.Goals as goal

pub returns-clause-ended : goal.returns-clause-ended
returns-clause-ended g c =
    let turn = c.in-Ok.turn in
    callback-ended (state c.args.self.now) (g.D.HubDoor.seen c.args.door.now) (g.D.HubDoor.seen c.turn.new.door)
    (lane_turned c.turn.new.self turn) (is_held turn) c.in-Ok.ensures.done c.requires.ended
