use Rattle.lane_state.specs.Ideal.{ideal_of}
use Rattle.lane_core.proofs.LaneCalls.{called-lane, kept-on}
use Rattle.lane_core.proofs.OneStanding.{stands-of}
use Rattle.lane_core.proofs.lane.Lane.dev_read_at.Goals as goal

pub dev_read_at-requires-clause-stands : goal.dev_read_at-requires-clause-stands
dev_read_at-requires-clause-stands c =
    let l = c.args.self.now in stands-of (ideal_of l.holdings) l.stands

pub invariant_of-self : goal.invariant_of-self
invariant_of-self c =
    let l = c.args.self.now in
    let h = l.holdings in
    let k = c.dev_read_at.new.holdings in
    let r = c.dev_read_at.ensures in
    let lane =
    called-lane h k
    (record { wired = l.wired; stands = l.stands; small = l.small; length = l.length; room = l.room })
    (kept-on h k l.wired r.kept) r.script r.agenda in
    record {
      wired = lane.wired;
      stands = lane.stands;
      small = lane.small;
      length = lane.length;
      room = lane.room;
    }

pub returns-clause-same : goal.returns-clause-same
returns-clause-same c = c.dev_read_at.ensures.kept.ideal
