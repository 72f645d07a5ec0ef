use Rattle.lane_state.specs.Ideal.{ideal_of}
use Rattle.lane_state.proofs.Doors.{err-map}
use Rattle.lane_core.proofs.LaneCalls.{called-lane, dev_write_at-after}
use Rattle.lane_core.proofs.OneStanding.{stands-of}
use Rattle.lane_core.proofs.SameWires.{same-wire}
use Rattle.lane_core.proofs.lane.Lane.dev_write_at.Goals as goal

pub dev_write_at-requires-clause-stands : goal.dev_write_at-requires-clause-stands
dev_write_at-requires-clause-stands c =
    let l = c.args.self.now in stands-of (ideal_of l.holdings) l.stands

pub invariant_of-self : goal.invariant_of-self
invariant_of-self c =
    let l = c.args.self.now in
    let h = l.holdings in
    let k = c.dev_write_at.new.holdings in
    let r = c.dev_write_at.ensures in
    let lane =
    called-lane h k
    (record { wired = l.wired; stands = l.stands; small = l.small; length = l.length; room = l.room })
    (dev_write_at-after h k l.wired (stands-of (ideal_of h) l.stands) c.args.tag c.args.addr c.args.bytes.now
    c.dev_write_at.result r.done r.wire r.err) r.script r.agenda in
    record {
      wired = lane.wired;
      stands = lane.stands;
      small = lane.small;
      length = lane.length;
      room = lane.room;
    }

pub returns-clause-err : goal.returns-clause-err
returns-clause-err c = err-map c.dev_write_at.result (λ s. s.ideal) c.dev_write_at.ensures.err

pub returns-clause-err_wire : goal.returns-clause-err_wire
returns-clause-err_wire c =
    err-map c.dev_write_at.result (same-wire c.args.self.now.holdings c.dev_write_at.new.holdings)
    c.dev_write_at.ensures.err
