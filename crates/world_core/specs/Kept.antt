-- What is kept of the drivers of a scenario and of the hub that they share.
use Rattle.std.specs.Prelude.{◌≡◌, List, map}
use Rattle.busdma_base.specs.declared.scenarios.scenario.Scenario.{Scenario}
use Rattle.busdma_machine.specs.Bounce.History.{account_of}
use Rattle.busdma_base.specs.Scenarios.Opening.{opening}
use Rattle.bounce_hub.specs.Seen.{HubSeen}
use Rattle.lane_core.specs.declared.lane.Lane.{Lane}
use Rattle.lane_core.specs.LaneIdeal.{ideal}
use Rattle.ideal_world.specs.WellFormed.{IsWellFormed}
use Rattle.ideal_world.specs.World.{WorldState}

-- the world of lanes and a hub: the lanes' ideal states, and the account that the hub's history leads to
abbrev pub kept_world : List Lane → HubSeen → WorldState
kept_world lanes hub = record { lanes = map ideal lanes; account = account_of hub.opening hub.history }

-- the world of these lanes and this hub is well formed for the scenario, and the hub began with the scenario's opening
-- account
pub record IsKept (s : Scenario) (lanes : List Lane) (hub : HubSeen) : Type 0 where
  pub well : IsWellFormed s (kept_world lanes hub)
  pub opening : hub.opening ≡ opening s
