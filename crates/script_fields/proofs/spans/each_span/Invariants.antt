use Rattle.std.proofs.Common.{◌≡◌, [], drop, map, length}
use Rattle.serde_json.specs.View.{view}
use Rattle.json_fields.specs.Field.{spot_of}
use Rattle.scenario_format.specs.Json.Items.{each}
use Rattle.scenario_format.specs.Parts.Spans.{read_span as span_at}
use Rattle.script_fields.proofs.spans.each_span.Given as goal

abbrev pub invariant-loop-value : goal.invariant-loop-value
invariant-loop-value l = record {
  rest : each (λ _. span_at) (spot_of l.here) l.spans.items (map view (drop l.value-index l.items))
      ≡ each (λ _. span_at) (spot_of l.here) [] (map view l.items);
  count : length l.spans.items ≡ l.value-index;
}
