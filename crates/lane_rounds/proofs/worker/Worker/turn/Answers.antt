use Rattle.std.proofs.Common.{◌≡◌, ◌++◌, [], ◌∷◌, false, ap, ◌∙◌, subst, ⊎_elim}
use Rattle.ideal_lane.specs.Turns.{lane_step}
use Rattle.lane_turns.specs.declared.turn.Turn.{Turn}
use Rattle.lane_turns.specs.declared.turn.Turn.TheVariants.{Blocked, Ended}
use Rattle.lane_core.specs.LaneIdeal.{ideal, lane_turned}
use Rattle.lane_turns.specs.TakenTurns.{IsTurned, answered, is_held}
use Rattle.ideal_runs.specs.Merged.{logged}
use Rattle.lane_rounds.proofs.Shapes.{is_step}
use Rattle.lane_rounds.proofs.Working.{grows-one, work-fails, work-stays, work-steps}
use Rattle.lane_rounds.proofs.worker.Worker.turn.Goals as goal

pub returns-in_err-turn-clause-works : goal.returns-in_err-turn-clause-works
returns-in_err-turn-clause-works g c =
    let w = c.args.self.now in
    let e = c.in_err-turn.ensures in
    work-fails (ideal w.first.value) (ideal w.lane) (ideal c.turn.new.self) w.log.items c.reserve.new.self.items
    c.args.side (g.D.HubDoor.seen w.door) (g.D.HubDoor.seen c.turn.new.door) c.requires e.served e.err e.undone
    c.reserve.ensures.items

pub returns-in-Stepped-clause-works : goal.returns-in-Stepped-clause-works
returns-in-Stepped-clause-works g c =
    let w = c.args.self.now in
    let d = g.D.HubDoor.seen w.door in
    let e = g.D.HubDoor.seen c.turn.new.door in
    work-steps (ideal w.first.value) (ideal w.lane) (ideal c.turn.new.self) w.log.items
    c.push_back_reserved.new.self.items c.args.side d e c.requires c.in_ok-turn.ensures.served c.in-Stepped.entry
    c.in-Stepped.held
    (subst (λ (t : Turn). IsTurned d (ideal w.lane).id (lane_step (ideal w.lane) c.args.side)
    (lane_turned c.turn.new.self t) (is_held t) e) c.in-Stepped.is c.in_ok-turn.ensures.done)
    (c.push_back_reserved.ensures.items ∙ (λ i. c.reserve.ensures.items i ++ c.new.ensures i ∷ []))

pub returns-in-Stepped-clause-grew : goal.returns-in-Stepped-clause-grew
returns-in-Stepped-clause-grew g c =
    grows-one c.args.self.now.log.items c.push_back_reserved.new.self.items
    (logged c.in-Stepped.entry c.in-Stepped.held)
    (c.push_back_reserved.ensures.items ∙ (λ i. c.reserve.ensures.items i ++ c.new.ensures i ∷ []))

pub returns-in-Blocked : goal.returns-in-Blocked
returns-in-Blocked g c =
    let w = c.args.self.now in
    let t : Turn = c.in_ok-turn.turn in
    let none : is_step (answered t) ≡ false =
    ⊎_elim (λ (is : t ≡ Blocked). ap (λ (x : Turn). is_step (answered x)) is)
    (λ (is : t ≡ Ended). ap (λ (x : Turn). is_step (answered x)) is) c.in-Blocked.is in
    record {
      works = work-stays (ideal w.first.value) (ideal w.lane) (ideal c.turn.new.self) w.log.items
          c.reserve.new.self.items c.args.side (g.D.HubDoor.seen w.door) (g.D.HubDoor.seen c.turn.new.door) c.requires
          c.in_ok-turn.ensures.served (answered t) (is_held t) none c.in_ok-turn.ensures.done c.reserve.ensures.items;
      place = λ i. record { first = ideal w.first.value; fixed = c.turn.ensures.fixed i };
      grew = c.reserve.ensures.items;
    }
