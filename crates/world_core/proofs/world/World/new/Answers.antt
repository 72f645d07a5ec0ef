use Rattle.world_core.proofs.OpeningWorld.{opens-with, opens-kept}
use Rattle.world_core.proofs.world.World.new.Goals as goal

pub invariant_of-result : goal.invariant_of-result
invariant_of-result c =
    let s = c.args.scenario.now in
    let lanes = c.in_ok-lanes.lanes.items in
    let hub = c.in_ok-lanes.hub in
    let made = c.in_ok-lanes.ensures in
    record { kept = opens-kept s lanes hub c.requires (opens-with s lanes hub made.lanes made.hub) }

pub returns : goal.returns
returns c =
    let made = c.in_ok-lanes.ensures in
    (opens-with c.args.scenario.now c.in_ok-lanes.lanes.items c.in_ok-lanes.hub made.lanes made.hub).world
