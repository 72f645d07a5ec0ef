use Rattle.lane_turns.proofs.ReturnTurns.{back-made}
use Rattle.lane_turns.proofs.turns.return_turn.Goals as goal

pub returns-clause-made : goal.returns-clause-made
returns-clause-made g c =
    back-made c.args.holdings.now c.release.new.holdings (g.D.HubDoor.seen c.args.door.now)
    (g.D.HubDoor.seen c.release.new.door) c.in_ok-map.field-0 c.in_ok-map.ensures.done c.in_ok-map.ensures.some
    c.release.ensures.bytes c.release.ensures.memories c.release.ensures.length c.release.ensures.room
    c.release.ensures.queue c.stepped.result
    c.stepped.ensures
