use Rattle.std.proofs.Common.{◌≡◌, inl, inr, sym, ap, ◌∙◌, subst}
use Rattle.ideal_lane.specs.State.{LaneState}
use Rattle.lane_state.specs.Served.{IsServed}
use Rattle.lane_core.specs.Appending.{with_next}
use Rattle.lane_core.specs.LaneIdeal.{ideal, lane_turned}
use Rattle.lane_turns.specs.TakenTurns.{is_held}
use Rattle.lane_state.proofs.Doors.{err-map, ok-map}
use Rattle.lane_core.proofs.AppendingLaws.{next-served, next-turned}
use Rattle.lane_core.proofs.lane.Lane.perform.Goals as goal

pub turn-requires : goal.turn-requires
turn-requires g c =
    record {
      served = subst (λ (l : LaneState). IsServed l (g.D.HubDoor.seen c.args.door.now)) (sym c.in_ok-append.ensures.ok)
          (next-served (ideal c.args.self.now) c.args.op.now (g.D.HubDoor.seen c.args.door.now) c.requires.served);
    }

pub returns-clause-done : goal.returns-clause-done
returns-clause-done g c =
    ok-map c.turn.result _ _
    (λ t made. next-turned (ideal c.args.self.now) (ideal c.append.new.self) c.args.op.now c.in_ok-append.ensures.ok
    c.requires.may.ready c.requires.free (g.D.HubDoor.seen c.args.door.now) (g.D.HubDoor.seen c.turn.new.door)
    (lane_turned c.turn.new.self t) (is_held t) made) c.turn.ensures.done

pub returns-clause-err : goal.returns-clause-err
returns-clause-err g c = err-map c.turn.result (λ same. inr (same ∙ c.in_ok-append.ensures.ok)) c.turn.ensures.err
