use Rattle.std.proofs.Common.{◌≡◌, ◌<◌, ◌≤◌, ap, sym, ◌∙◌, length, map, not, arith}
use Rattle.std.proofs.lemmas.List.{length-map}
use Rattle.ideal_world.proofs.Lanes.{found}
use Rattle.lane_core.specs.LaneIdeal.{ideal}
use Rattle.world_core.specs.Ideal.{ideal_world}
use Rattle.world_core.proofs.Agreeing.{number-of}
use Rattle.world_core.proofs.Resting.{absent-idle, callback-idle, device-idle, script-idle}
use Rattle.world_core.proofs.Taking.{lane_found, no-driver}
use Rattle.world_core.proofs.world.World.is_idle.Goals as goal

pub returns-then-number-len : goal.returns-then-number-len
returns-then-number-len c =
    let w = c.args.self.now in
    let i = c.args.actor.lane.0 in
    absent-idle (ideal_world w) c.args.actor
    (no-driver w.lanes.items i (omega (arith, c.if-number-len.true, c.len.ensures, w.lanes.ok.0)))

pub returns-in-Script : goal.returns-in-Script
returns-in-Script c =
    let w = c.args.self.now in
    let i = c.args.actor.lane.0 in
    let lt : i < length w.lanes.items = omega (arith, c.if-number-len.false, c.len.ensures, w.lanes.ok.0) in
    ap not c.has_step.ensures
    ∙ script-idle (ideal_world w) c.args.actor (ideal c.index.result.now)
    (lane_found w.lanes.items i c.index.result.now lt c.index.ensures) c.in-Script.is

pub returns-in-Transfer : goal.returns-in-Transfer
returns-in-Transfer c =
    let w = c.args.self.now in
    let i = c.args.actor.lane.0 in
    let lt : i < length w.lanes.items = omega (arith, c.if-number-len.false, c.len.ensures, w.lanes.ok.0) in
    ap not c.has_item.ensures
    ∙ device-idle (ideal_world w) c.args.actor (ideal c.index-in-Transfer.result.now)
    (lane_found w.lanes.items i c.index-in-Transfer.result.now lt c.index-in-Transfer.ensures) c.in-Transfer.is

pub returns-in-Callback : goal.returns-in-Callback
returns-in-Callback c =
    let w = c.args.self.now in
    let i = c.args.actor.lane.0 in
    let lt : i < length (ideal_world w).lanes =
    omega (arith, c.if-number-len.false, c.len.ensures, w.lanes.ok.0, length-map w.lanes.items ideal) in
    let at = found (ideal_world w).lanes i lt in
    c.is_no_callback_of.ensures
    ∙ callback-idle (ideal_world w) c.args.actor at.0 at.1
    (number-of at.0 i w.kept (λ k. (k.well.each i at.0 at.1).number))
    c.in-Callback.is
