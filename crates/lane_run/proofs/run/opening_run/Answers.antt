use Rattle.std.proofs.Common.{◌∙◌}
use Rattle.lane_run.proofs.ClosingLaws.{opening-run}
use Rattle.lane_run.proofs.run.opening_run.Goals as goal

pub returns : goal.returns
returns c =
    opening-run c.args.scenario.now (λ l. l.items) c.in_ok-logs.logs.items c.in_ok-lanes.lanes.items
    c.in_ok-lanes.hub c.in_ok-lanes.ensures.lanes c.in_ok-lanes.ensures.hub
    (c.in_ok-logs.ensures.count ∙ c.len.ensures ∙ c.in_ok-lanes.lanes.ok.0) c.in_ok-logs.ensures.empty
