use Rattle.std.proofs.Common.{◌≡◌, [], drop, map}
use Rattle.serde_json.specs.View.{view}
use Rattle.busdma_machine.specs.Each.{EachAfter}
use Rattle.busdma_base.specs.Scenarios.PageRuns.{IsPageRun}
use Rattle.json_fields.specs.Field.{spot_of}
use Rattle.scenario_format.specs.Json.Items.{each}
use Rattle.scenario_format.specs.Scenarios.Pages.{read_page_run as page_run_at}
use Rattle.scenario_read.proofs.pages.runs.Given as goal

abbrev pub invariant-loop-value : goal.invariant-loop-value
invariant-loop-value l = record {
  rest : each (page_run_at l.frames l.earlier) (spot_of l.here) l.runs.items (map view (drop l.value-index l.items))
      ≡ each (page_run_at l.frames l.earlier) (spot_of l.here) [] (map view l.items);
  valid : EachAfter (IsPageRun l.frames l.earlier) [] l.runs.items;
}
