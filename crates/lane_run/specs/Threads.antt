-- What is known of drivers that ran on threads.
use Rattle.std.specs.Prelude.{◌≡◌, List}
use Rattle.busdma_base.specs.declared.scenarios.scenario.Scenario.{Scenario}
use Rattle.busdma_base.specs.Scenarios.Opening.{opening}
use Rattle.bounce_hub.specs.Seen.{HubSeen}
use Rattle.lane_core.specs.declared.lane.Lane.{Lane}
use Rattle.ideal_runs.specs.Runs.{Log}
use Rattle.world_core.specs.Kept.{kept_world}
use Rattle.ideal_runs.specs.FromLogs.{RunsTo}

-- the hub began with the scenario's opening account, and by its history the logs lead from the scenario's opening to
-- the drivers' world
pub record HasRunThread (s : Scenario) (lanes : List Lane) (logs : List Log) (hub : HubSeen) : Type 0 where
  pub begins : hub.opening ≡ opening s
  pub run : RunsTo s logs hub.history (kept_world lanes hub)
