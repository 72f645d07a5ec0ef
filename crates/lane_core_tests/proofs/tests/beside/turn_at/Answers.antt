use Rattle.std.proofs.Common.{refl}
use Rattle.bounce_hub.specs.Seen.{door}
use Rattle.ideal_lane.specs.Turns.{lane_step}
use Rattle.lane_core.specs.LaneIdeal.{ideal, lane_turned}
use Rattle.lane_core_tests.proofs.Coming.{comes-turn, number-turn}
use Rattle.lane_core_tests.proofs.tests.beside.turn_at.Goals as goal

pub returns-clause-number : goal.returns-clause-number
returns-clause-number c =
    number-turn (door c.args.hub.now) (door c.turn.new.door) (ideal c.args.lane.now) (ideal c.turn.new.self)
    c.args.side (lane_turned c.turn.new.self) c.turn.result (λ t. refl) c.turn.ensures.done c.turn.ensures.err

pub returns-clause-comes : goal.returns-clause-comes
returns-clause-comes c =
    comes-turn (ideal c.args.lane.now).id c.args.hub.now c.turn.new.door
    (lane_step (ideal c.args.lane.now) c.args.side) (lane_turned c.turn.new.self) c.turn.result
    c.turn.ensures.done c.turn.ensures.undone
