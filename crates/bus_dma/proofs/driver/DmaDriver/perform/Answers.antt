use Rattle.lane_core.specs.LaneIdeal.{ideal, lane_turned}
use Rattle.lane_turns.specs.TakenTurns.{is_held}
use Rattle.bus_dma.proofs.NextLaws.{done-ready}
use Rattle.bus_dma.proofs.TurnLaws.{done-ended, turned-done}
use Rattle.bus_dma.proofs.driver.DmaDriver.perform.Goals as goal

pub returns-clause-done : goal.returns-clause-done
returns-clause-done g c =
    let turn = c.in_ok-turn.turn in
    turned-done (ideal c.args.self.now.lane) c.args.op c.in_ok-op.op.now c.in_ok-op.ensures c.requires.may.unsent
    (g.D.HubDoor.seen c.args.door.now) (g.D.HubDoor.seen c.perform.new.door) (lane_turned c.perform.new.self turn)
    (is_held turn) c.in_ok-turn.ensures.done c.answer_of.result c.answer_of.ensures

pub returns-clause-ended : goal.returns-clause-ended
returns-clause-ended g c =
    let turn = c.in_ok-turn.turn in
    done-ended (ideal c.args.self.now.lane) c.args.op c.in_ok-op.op.now c.in_ok-op.ensures c.requires.may.unsent
    c.requires.ready (g.D.HubDoor.seen c.args.door.now) (g.D.HubDoor.seen c.perform.new.door)
    (lane_turned c.perform.new.self turn) (is_held turn) c.in_ok-turn.ensures.done

pub returns-clause-next : goal.returns-clause-next
returns-clause-next g c =
    let turn = c.in_ok-turn.turn in
    done-ready (ideal c.args.self.now.lane) c.args.op c.in_ok-op.op.now c.in_ok-op.ensures c.requires.may.unsent
    c.requires.ready (g.D.HubDoor.seen c.args.door.now) (g.D.HubDoor.seen c.perform.new.door)
    (lane_turned c.perform.new.self turn) (is_held turn) c.in_ok-turn.ensures.done
