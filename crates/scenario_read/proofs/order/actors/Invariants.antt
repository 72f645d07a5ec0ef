use Rattle.std.proofs.Common.{◌≡◌, ◌<◌, [], drop, map, length}
use Rattle.std.specs.List.{AllByRecursion}
use Rattle.serde_json.specs.View.{view}
use Rattle.json_fields.specs.Field.{spot_of}
use Rattle.scenario_format.specs.Json.Items.{each}
use Rattle.scenario_format.specs.Scenarios.Order.{read_actor as actor_at}
use Rattle.scenario_read.proofs.order.actors.Given as goal

abbrev pub invariant-loop-value : goal.invariant-loop-value
invariant-loop-value l = record {
  rest : each (λ _. actor_at l.drivers) (spot_of l.here) l.actors.items (map view (drop l.value-index l.items))
      ≡ each (λ _. actor_at l.drivers) (spot_of l.here) [] (map view l.items);
  count : length l.actors.items ≡ l.value-index;
  there : AllByRecursion (λ a. a.lane.0 < l.drivers) l.actors.items;
}
