use Rattle.std.proofs.Common.{◌≡◌, [], drop, map, length}
use Rattle.std.specs.List.{AllByRecursion}
use Rattle.serde_json.specs.View.{view}
use Rattle.busdma_machine.specs.Each.{EachAfter}
use Rattle.json_fields.specs.Field.{spot_of}
use Rattle.scenario_format.specs.Json.Items.{each}
use Rattle.script_read.specs.Sends.{IsClusterOf, IsUpTo}
use Rattle.scenario_format.specs.Scripts.Sends.{read_cluster as cluster_at}
use Rattle.script_read.proofs.sends.each_cluster.Given as goal

abbrev pub invariant-loop-value : goal.invariant-loop-value
invariant-loop-value l = record {
  rest : each (cluster_at l.chain) (spot_of l.here) l.clusters.items (map view (drop l.value-index l.items))
      ≡ each (cluster_at l.chain) (spot_of l.here) [] (map view l.items);
  valid : EachAfter (IsClusterOf l.chain) [] l.clusters.items;
  count : length l.clusters.items ≡ l.value-index;
  highest : AllByRecursion (IsUpTo l.highest) l.clusters.items;
}
