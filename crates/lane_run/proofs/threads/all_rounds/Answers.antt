use Rattle.std.proofs.Common.{rules, sym, subst}
use mir.Syntax.{static}
use denote.Param.{param}
use Rattle.lane_run.proofs.SeatedLaws.{Rounded, rounded-next}
use Rattle.lane_run.proofs.Sending.{door_send}
use Rattle.lane_run.proofs.threads.all_rounds.Goals.{in-None, in-Some+then-not-wants_round}
use Rattle.lane_run.proofs.threads.all_rounds.Goals as goal

pub round_on_threads-requires-send-D : goal.round_on_threads-requires-send-D
round_on_threads-requires-send-D g c κs within = record {
  owned = (door_send (record { mir = static; lft = κs.1.1.1.1.1.0 }) (param 0 g.row.Rt) c.type_bounds.sync-Rt).owned;
  leaving = search rules;
}

pub returns-clause-each : goal.returns-clause-each
returns-clause-each g c = elim c.match-next.branch [
  | in-None w ↦ subst (Rounded c.args.workers.now) (sym w.workers-is) c.loop.invariant.1
  | in-Some+then-not-wants_round w ↦ subst (Rounded c.args.workers.now) (sym w.workers-is)
      (rounded-next c.args.workers.now c.loop.workers w.round_on_threads.new.workers c.loop.invariant.0
      c.loop.invariant.1 w.round_on_threads.ensures.each)
]
