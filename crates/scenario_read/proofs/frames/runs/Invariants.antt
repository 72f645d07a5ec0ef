use Rattle.std.proofs.Common.{◌≡◌, ◌≤◌, [], drop, map}
use Rattle.std.specs.List.{AllByRecursion}
use Rattle.serde_json.specs.View.{view}
use Rattle.busdma_machine.specs.Each.{EachAfter}
use Rattle.busdma_base.specs.Scenarios.FrameRuns.{IsFrameRun, IsNumbered, frame_count}
use Rattle.json_fields.specs.Field.{spot_of}
use Rattle.scenario_format.specs.Json.Items.{each}
use Rattle.scenario_format.specs.Scenarios.Frames.{read_frame_run as frame_run_at}
use Rattle.scenario_read.proofs.frames.runs.Given as goal

abbrev pub invariant-loop-value : goal.invariant-loop-value
invariant-loop-value l = record {
  rest : each frame_run_at (spot_of l.here) l.runs.items (map view (drop l.value-index l.items))
      ≡ each frame_run_at (spot_of l.here) [] (map view l.items);
  sum : l.total ≡ frame_count l.runs.items;
  few : l.total ≤ 8192;
  valid : EachAfter IsFrameRun [] l.runs.items;
  numbered : AllByRecursion IsNumbered l.runs.items;
}
