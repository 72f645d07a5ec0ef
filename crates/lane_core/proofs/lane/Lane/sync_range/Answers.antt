use Rattle.std.proofs.Common.{ap, sym, ◌∙◌}
use Rattle.ideal_lane.specs.Syncs as syncs
use Rattle.ideal_lane.specs.Outcomes.{gives}
use Rattle.ideal_wire.specs.WireStep as wires
use Rattle.lane_state.specs.Ideal.{ideal_of}
use Rattle.lane_state.specs.Wire.{wire_of}
use Rattle.lane_state.proofs.Doors.{err-map, ok-map}
use Rattle.lane_core.proofs.LaneCalls.{called-lane, foreign-call, foreign-wire, own-call, own-wire, sync_range-after}
use Rattle.lane_core.proofs.OneStanding.{stands-of}
use Rattle.lane_core.proofs.SameWires.{same-wire}
use Rattle.lane_core.proofs.lane.Lane.sync_range.Goals as goal

pub invariant_of-self : goal.invariant_of-self
invariant_of-self c =
    let l = c.args.self.now in
    let h = l.holdings in
    let k = c.sync_range.new.holdings in
    let r = c.sync_range.ensures in
    let lane =
    called-lane h k
    (record { wired = l.wired; stands = l.stands; small = l.small; length = l.length; room = l.room })
    (sync_range-after h k l.wired (stands-of (ideal_of h) l.stands) c.args.map.made_at c.args.off c.args.len
    c.args.ops.0 c.sync_range.result r.done
    r.wire r.err) r.script r.agenda in
    record {
      wired = lane.wired;
      stands = lane.stands;
      small = lane.small;
      length = lane.length;
      room = lane.room;
    }

pub returns-then-not-owns-clause-done : goal.returns-then-not-owns-clause-done
returns-then-not-owns-clause-done c =
    let l = ideal_of c.args.self.now.holdings in
    ap (gives l) c.report.ensures
    ∙ sym (foreign-call c.args.map l (syncs.sync_range c.args.map.made_at c.args.off c.args.len c.args.ops.0 l)
    (sym c.owns.ensures ∙ c.if-not-owns.true))

pub returns-then-not-owns-clause-wire : goal.returns-then-not-owns-clause-wire
returns-then-not-owns-clause-wire c =
    let h = c.args.self.now.holdings in
    sym (foreign-wire c.args.map (ideal_of h) (wires.wire_sync_range c.args.map.made_at c.args.off c.args.len
    c.args.ops.0
    (ideal_of h) (wire_of h)) (wire_of h)
    (sym c.owns.ensures ∙ c.if-not-owns.true))

pub returns-clause-done : goal.returns-clause-done
returns-clause-done c =
    let l = ideal_of c.args.self.now.holdings in
    ok-map c.sync_range.result _ _ (λ a done. done
    ∙ sym (own-call c.args.map l (syncs.sync_range c.args.map.made_at c.args.off c.args.len c.args.ops.0 l)
    (sym c.owns.ensures ∙ c.if-not-owns.false)))
    c.sync_range.ensures.done

pub returns-clause-wire : goal.returns-clause-wire
returns-clause-wire c =
    let h = c.args.self.now.holdings in
    ok-map c.sync_range.result _ _ (λ a wire. wire
    ∙ sym (own-wire c.args.map (ideal_of h) (wires.wire_sync_range c.args.map.made_at c.args.off c.args.len c.args.ops.0
    (ideal_of h) (wire_of h)) (wire_of h)
    (sym c.owns.ensures ∙ c.if-not-owns.false))) c.sync_range.ensures.wire

pub returns-clause-err : goal.returns-clause-err
returns-clause-err c = err-map c.sync_range.result (λ s. s.ideal) c.sync_range.ensures.err

pub returns-clause-err_wire : goal.returns-clause-err_wire
returns-clause-err_wire c =
    err-map c.sync_range.result (same-wire c.args.self.now.holdings c.sync_range.new.holdings) c.sync_range.ensures.err
