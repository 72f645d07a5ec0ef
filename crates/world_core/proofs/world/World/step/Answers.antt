use Rattle.std.proofs.Common.{◌<◌, length, arith, slice_set}
use Rattle.std.proofs.lemmas.Result.{IfOk-weaker}
use Rattle.lane_core.specs.LaneIdeal.{ideal}
use Rattle.lane_turns.specs.TakenTurns.{answered}
use Rattle.world_core.proofs.Taking.{at_either, lane_found, no-holds, ok_both, on_both, serves, stay-kept, took}
use Rattle.world_core.proofs.Taking.{took-history, took-holds, took-none, took-opening, turn-kept}
use Rattle.world_core.proofs.Turning.{undone-history, undone-opening}
use Rattle.world_core.proofs.WireLaws.{no-wires, wires-follow, wires-stay}
use Rattle.world_core.proofs.world.World.step.Goals as goal

pub turn-requires : goal.turn-requires
turn-requires c =
    let w = c.args.self.now in
    let i = c.args.actor.lane.0 in
    let lt : i < length w.lanes.items = omega (arith, c.if-at-len.false, c.len.ensures, w.lanes.ok.0) in
    record {
      served = serves w.scenario.now w.lanes.items w.hub i c.index_mut.result.now
          (lane_found w.lanes.items i c.index_mut.result.now lt c.index_mut.ensures.value) w.kept
          c.hub_is_sound.ensures.form c.hub_is_sound.ensures.sound;
    }

pub invariant_of-self-2 : goal.invariant_of-self-2
invariant_of-self-2 c =
    let w = c.args.self.now in
    let i = c.args.actor.lane.0 in
    let lt : i < length w.lanes.items = omega (arith, c.if-at-len.false, c.len.ensures, w.lanes.ok.0) in
    let l = c.index_mut.result.now in
    let m = c.turn.new.self in
    let hub = c.turn.new.door in
    record {
      kept = at_either c.turn.result _ _ _ c.turn.ensures.done c.turn.ensures.err c.turn.ensures.undone
          (λ t done. turn-kept w.scenario.now w.lanes.items w.hub (slice_set w.lanes.items i m) hub c.args.actor
          (answered t) (took w.lanes.items w.hub hub c.args.actor l m lt c.index_mut.ensures.value t done)
          (took-opening w.lanes.items w.hub hub c.args.actor l m lt c.index_mut.ensures.value t done) w.kept)
          (λ same undone. stay-kept w.scenario.now w.lanes.items w.hub (slice_set w.lanes.items i m) hub
          (took-none w.lanes.items w.hub hub c.args.actor l m lt c.index_mut.ensures.value same undone)
          (undone-opening w.hub hub undone) w.kept);
    }

pub returns-clause-done : goal.returns-clause-done
returns-clause-done c =
    let w = c.args.self.now in
    let lt : c.args.actor.lane.0 < length w.lanes.items =
    omega (arith, c.if-at-len.false, c.len.ensures, w.lanes.ok.0) in
    IfOk-weaker c.turn.result _ _
    (λ t done. took w.lanes.items w.hub c.turn.new.door c.args.actor c.index_mut.result.now c.turn.new.self lt
    c.index_mut.ensures.value t done)
    c.turn.ensures.done

pub returns-clause-held : goal.returns-clause-held
returns-clause-held c =
    let w = c.args.self.now in
    let lt : c.args.actor.lane.0 < length w.lanes.items =
    omega (arith, c.if-at-len.false, c.len.ensures, w.lanes.ok.0) in
    IfOk-weaker c.turn.result _ _
    (λ t done. took-holds w.lanes.items w.hub c.turn.new.door c.args.actor c.index_mut.result.now c.turn.new.self lt
    c.index_mut.ensures.value t done)
    c.turn.ensures.done

pub returns-clause-err : goal.returns-clause-err
returns-clause-err c =
    let w = c.args.self.now in
    let lt : c.args.actor.lane.0 < length w.lanes.items =
    omega (arith, c.if-at-len.false, c.len.ensures, w.lanes.ok.0) in
    on_both c.turn.result _ _ _ c.turn.ensures.err c.turn.ensures.undone
    (λ same undone. took-none w.lanes.items w.hub c.turn.new.door c.args.actor c.index_mut.result.now c.turn.new.self
    lt c.index_mut.ensures.value same undone)

pub returns-clause-wires : goal.returns-clause-wires
returns-clause-wires c =
    let w = c.args.self.now in
    let i = c.args.actor.lane.0 in
    let lt : i < length w.lanes.items = omega (arith, c.if-at-len.false, c.len.ensures, w.lanes.ok.0) in
    let l = c.index_mut.result.now in
    let m = c.turn.new.self in
    let hub = c.turn.new.door in
    ok_both c.turn.result _ _ _ c.turn.ensures.done c.turn.ensures.wire
    (λ t done follows. wires-follow w.lanes.items w.hub hub c.args.actor l m lt c.index_mut.ensures.value (answered t)
    (took w.lanes.items w.hub hub c.args.actor l m lt c.index_mut.ensures.value t done) follows)

pub returns-clause-err_wires : goal.returns-clause-err_wires
returns-clause-err_wires c =
    let w = c.args.self.now in
    let i = c.args.actor.lane.0 in
    let lt : i < length w.lanes.items = omega (arith, c.if-at-len.false, c.len.ensures, w.lanes.ok.0) in
    on_both c.turn.result _ _ _ c.turn.ensures.err_wire c.turn.ensures.err
    (wires-stay w.lanes.items w.hub c.turn.new.door c.args.actor c.index_mut.result.now c.turn.new.self lt
    c.index_mut.ensures.value)

pub returns-clause-history : goal.returns-clause-history
returns-clause-history c =
    let w = c.args.self.now in
    let lt : c.args.actor.lane.0 < length w.lanes.items =
    omega (arith, c.if-at-len.false, c.len.ensures, w.lanes.ok.0) in
    ok_both c.turn.result _ _ _ c.turn.ensures.done c.turn.ensures.wire
    (λ t done follows. took-history w.lanes.items w.hub c.turn.new.door c.args.actor c.index_mut.result.now
    c.turn.new.self lt c.index_mut.ensures.value t done)

pub returns-clause-err_history : goal.returns-clause-err_history
returns-clause-err_history c =
    on_both c.turn.result _ _ _ c.turn.ensures.err c.turn.ensures.undone
    (λ same undone. undone-history c.args.self.now.hub c.turn.new.door undone)

pub returns-clause-wanting : goal.returns-clause-wanting
returns-clause-wanting c =
    let w = c.args.self.now in
    let lt : c.args.actor.lane.0 < length w.lanes.items =
    omega (arith, c.if-at-len.false, c.len.ensures, w.lanes.ok.0) in
    let l = c.index_mut.result.now in
    on_both c.turn.result _ _ _ c.turn.ensures.wanting c.turn.ensures.err
    (λ may same. (ideal l, lane_found w.lanes.items c.args.actor.lane.0 l lt c.index_mut.ensures.value, may))

-- an actor that has no driver
pub returns-then-at-len-clause-history : goal.returns-then-at-len-clause-history
returns-then-at-len-clause-history c =
    let w = c.args.self.now in
    no-holds w.lanes.items w.hub c.args.actor (omega (arith, c.if-at-len.true, c.len.ensures, w.lanes.ok.0))

pub returns-then-at-len-clause-wires : goal.returns-then-at-len-clause-wires
returns-then-at-len-clause-wires c =
    let w = c.args.self.now in
    no-wires w.lanes.items w.hub c.args.actor (omega (arith, c.if-at-len.true, c.len.ensures, w.lanes.ok.0))
