use Rattle.std.proofs.Common.{rules, subst}
use mir.Syntax.{static}
use denote.Param.{param}
use Rattle.lane_rounds.specs.declared.worker.Worker.{Worker}
use Rattle.lane_rounds.specs.AtWork.{GoesOn, Tells}
use Rattle.lane_rounds.proofs.Sending.{worker_send}
use Rattle.lane_rounds.proofs.round.round_on_threads.Goals as goal

pub for_each_mut-requires-send-T : goal.for_each_mut-requires-send-T
for_each_mut-requires-send-T g c κs within = record {
  owned = (worker_send (record { mir = static; lft = κs.1.1.1.1.1.1.0 }) (param 1 g.row.D) (param 3 g.row.D-Fixed)
      c.type_bounds.send-D).owned;
  leaving = search rules;
}

pub returns-clause-each : goal.returns-clause-each
returns-clause-each g c = λ i w below.
    let k = (c.for_each_mut.ensures i w below).1 in
    let W : Type 0 = Worker g.row.D.Denot g.row.D-Fixed.Denot in
    subst (λ (x : W × W). GoesOn g.D.HubDoor.seen g.D.HubDoor.fixed x.0 x.1) (λ j. (k.argument_is j, k.left j))
    k.call.0

pub returns-clause-told : goal.returns-clause-told
returns-clause-told g c = λ i w below.
    let k = (c.for_each_mut.ensures i w below).1 in
    let W : Type 0 = Worker g.row.D.Denot g.row.D-Fixed.Denot in
    subst (λ (x : W × W). Tells x.0 x.1) (λ j. (k.argument_is j, k.left j)) k.call.1
