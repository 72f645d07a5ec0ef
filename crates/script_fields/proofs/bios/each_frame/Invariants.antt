use Rattle.std.proofs.Common.{◌≡◌, [], drop, map, length, true}
use Rattle.std.specs.List.{AllByRecursion}
use Rattle.serde_json.specs.View.{view}
use Rattle.busdma_base.specs.Scenarios.PageRuns.{has_frame}
use Rattle.json_fields.specs.Field.{spot_of}
use Rattle.scenario_format.specs.Json.Items.{each}
use Rattle.scenario_format.specs.Parts.Bios.{read_bio_frame}
use Rattle.script_fields.proofs.bios.each_frame.Given as goal

abbrev pub invariant-loop-value : goal.invariant-loop-value
invariant-loop-value l = record {
  rest : each (λ _. read_bio_frame l.pages) (spot_of l.here) l.frames.items (map view (drop l.value-index l.items))
      ≡ each (λ _. read_bio_frame l.pages) (spot_of l.here) [] (map view l.items);
  own : AllByRecursion (λ frame. has_frame l.pages frame ≡ true) l.frames.items;
  count : length l.frames.items ≡ l.value-index;
}
