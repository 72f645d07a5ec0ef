use Rattle.std.proofs.Common.{ap, sym, ◌∙◌}
use Rattle.ideal_lane.specs.Turns as turns
use Rattle.ideal_wire.specs.WireStep as wires
use Rattle.lane_state.specs.Ideal.{ideal_of}
use Rattle.lane_state.specs.Wire.{wire_of}
use Rattle.lane_state.proofs.Doors.{always-ok, ok-map}
use Rattle.lane_turns.proofs.steps.transfer.Goals as goal

pub returns-in-DevReadAt-clause-done : goal.returns-in-DevReadAt-clause-done
returns-in-DevReadAt-clause-done c =
    ok-map c.dev_read_at.result _ _
    (λ a e. e ∙ sym (ap (λ i. turns.transfer i (ideal_of c.args.holdings.now)) c.in-DevReadAt.is))
    c.dev_read_at.ensures.done

pub returns-in-DevReadAt-clause-wire : goal.returns-in-DevReadAt-clause-wire
returns-in-DevReadAt-clause-wire c =
    let h = c.args.holdings.now in
    always-ok c.dev_read_at.result (c.dev_read_at.ensures.wire
    ∙ sym (ap (λ i. wires.wire_transfer i (ideal_of h) (wire_of h)) c.in-DevReadAt.is))

pub returns-in-DevRead-clause-wire : goal.returns-in-DevRead-clause-wire
returns-in-DevRead-clause-wire c =
    let h = c.args.holdings.now in
    always-ok c.dev_read.result (c.dev_read.ensures.wire
    ∙ sym (ap (λ i. wires.wire_transfer i (ideal_of h) (wire_of h)) c.in-DevRead.is))
