use Rattle.std.proofs.Common.{◌≡◌, [], drop, false, map}
use Rattle.std.specs.List.{AllByRecursion}
use Rattle.serde_json.specs.View.{view}
use Rattle.busdma_base.specs.Scenarios.Script.{IsItem, is_ring_step}
use Rattle.json_fields.specs.Field.{spot_of}
use Rattle.scenario_format.specs.Json.Items.{each}
use Rattle.script_fields.specs.Counts.{IsWithin}
use Rattle.scenario_format.specs.Parts.Counts.{with_items}
use Rattle.scenario_format.specs.Scripts.Items.{read_item}
use Rattle.script_read.proofs.items.each_item.Given as goal

abbrev pub invariant-loop-value : goal.invariant-loop-value
invariant-loop-value l = record {
  rest : each (λ done. read_item l.before (with_items l.fn.counts done)) (spot_of l.here) l.done.items
      (map view (drop l.value-index l.items))
      ≡ each (λ done. read_item l.before (with_items l.fn.counts done)) (spot_of l.here) [] (map view l.items);
  valid : AllByRecursion (IsItem l.before) l.done.items;
  of_load : AllByRecursion (λ i. is_ring_step i ≡ false) l.done.items;
  counted : l.counts ≡ with_items l.fn.counts l.done.items;
  within : IsWithin l.counts;
}
