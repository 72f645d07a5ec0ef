use Rattle.std.proofs.lemmas.Result.{IfOk-weaker}
use Rattle.ideal_runs.proofs.FromLogs.{from-logs-legal}
use Rattle.lane_run.proofs.run.run_lanes.Goals as goal

pub returns-clause-legal : goal.returns-clause-legal
returns-clause-legal g c =
    IfOk-weaker c.finish.result _ _ (λ j. from-logs-legal c.args.scenario.now j) c.finish.ensures
