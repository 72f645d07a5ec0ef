use Rattle.lane_state.specs.Ideal.{ideal_of}
use Rattle.lane_state.proofs.Doors.{err-map, ok-map}
use Rattle.lane_core.proofs.OneStanding.{stands-of}
use Rattle.lane_turns.proofs.Providing.{follows-after, kept-follows}
use Rattle.lane_core.proofs.lane.Lane.turn.Goals as goal

pub take_turn-requires-clause-ready : goal.take_turn-requires-clause-ready
take_turn-requires-clause-ready g c =
    let l = c.args.self.now in
    record {
      stands = stands-of (ideal_of l.holdings) l.stands;
      wired = l.wired;
      room = l.room;
      served = c.requires.served;
    }

pub invariant_of-self : goal.invariant_of-self
invariant_of-self g c =
    let r = c.take_turn.ensures in
    record {
      wired = r.ready.wired;
      stands = ∣ r.ready.stands ∣₁;
      small = r.small;
      length = r.length;
      room = r.ready.room;
    }

pub returns-clause-done : goal.returns-clause-done
returns-clause-done g c = ok-map c.take_turn.result _ _ (λ t made. made.done) c.take_turn.ensures.made

pub returns-clause-wire : goal.returns-clause-wire
returns-clause-wire g c =
    let l = c.args.self.now in
    follows-after l.holdings c.take_turn.new.holdings (g.D.HubDoor.seen c.args.door.now)
    (g.D.HubDoor.seen c.take_turn.new.door)
    c.args.side (record {
      stands = stands-of (ideal_of l.holdings) l.stands;
      wired = l.wired;
      room = l.room;
      served = c.requires.served;
    }) c.take_turn.result c.take_turn.ensures.made

pub returns-clause-served : goal.returns-clause-served
returns-clause-served g c = c.take_turn.ensures.ready.served

pub returns-clause-err : goal.returns-clause-err
returns-clause-err g c = err-map c.take_turn.result (λ s. s.ideal) c.take_turn.ensures.err

pub returns-clause-err_wire : goal.returns-clause-err_wire
returns-clause-err_wire g c =
    err-map c.take_turn.result (kept-follows c.args.self.now.holdings c.take_turn.new.holdings c.args.self.now.wired)
    c.take_turn.ensures.err

pub returns-clause-wanting : goal.returns-clause-wanting
returns-clause-wanting g c = c.take_turn.ensures.wanting
