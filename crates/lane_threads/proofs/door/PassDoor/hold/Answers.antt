use Rattle.std.proofs.Common.{ap, ◌∙◌, subst}
use Rattle.lane_threads.specs.Closing.{LanePass}
use Rattle.lane_threads.specs.PassDoor.{seen, door_place, Replied}
use Rattle.lane_threads.proofs.Turning.{turn_replied}
use Rattle.lane_threads.proofs.door.PassDoor.hold.Goals as goal

pub returns-clause-replied : goal.returns-clause-replied
returns-clause-replied g c =
    subst (λ (p : LanePass). Replied (seen p) c.args.call c.hold.result (seen c.hold.new.pass)) c.self.view_is
    (turn_replied c.self.inside.pass c.hold.new.pass c.args.call c.hold.result
    c.hold.ensures.turn c.hold.ensures.sound)

pub returns-clause-fixed : goal.returns-clause-fixed
returns-clause-fixed g c = ap door_place (c.hold.ensures.turn.rest) ∙ ap door_place c.self.view_is
