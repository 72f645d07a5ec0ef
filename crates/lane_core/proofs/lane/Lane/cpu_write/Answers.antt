use Rattle.lane_state.specs.Ideal.{ideal_of}
use Rattle.lane_state.proofs.Doors.{err-map}
use Rattle.lane_core.proofs.LaneCalls.{called-lane, cpu_write-after}
use Rattle.lane_core.proofs.OneStanding.{stands-of}
use Rattle.lane_core.proofs.SameWires.{same-wire}
use Rattle.lane_core.proofs.lane.Lane.cpu_write.Goals as goal

pub invariant_of-self : goal.invariant_of-self
invariant_of-self c =
    let l = c.args.self.now in
    let h = l.holdings in
    let k = c.cpu_write.new.holdings in
    let r = c.cpu_write.ensures in
    let lane =
    called-lane h k
    (record { wired = l.wired; stands = l.stands; small = l.small; length = l.length; room = l.room })
    (cpu_write-after h k l.wired (stands-of (ideal_of h) l.stands) c.args.place c.args.bytes.now c.cpu_write.result
    r.done r.wire r.err)
    r.script r.agenda in
    record {
      wired = lane.wired;
      stands = lane.stands;
      small = lane.small;
      length = lane.length;
      room = lane.room;
    }

pub returns-clause-err : goal.returns-clause-err
returns-clause-err c = err-map c.cpu_write.result (λ s. s.ideal) c.cpu_write.ensures.err

pub returns-clause-err_wire : goal.returns-clause-err_wire
returns-clause-err_wire c =
    err-map c.cpu_write.result (same-wire c.args.self.now.holdings c.cpu_write.new.holdings) c.cpu_write.ensures.err
