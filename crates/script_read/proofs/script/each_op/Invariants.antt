use Rattle.std.proofs.Common.{◌≡◌, [], drop, map}
use Rattle.std.specs.List.{AllByRecursion}
use Rattle.serde_json.specs.View.{view}
use Rattle.busdma_machine.specs.Each.{EachAfter}
use Rattle.busdma_base.specs.Scenarios.Script.{IsOp}
use Rattle.busdma_base.specs.Scenarios.Valid.{LoadsFrom}
use Rattle.json_fields.specs.Field.{spot_of}
use Rattle.scenario_format.specs.Json.Items.{each}
use Rattle.script_fields.specs.Counts.{IsWithin}
use Rattle.scenario_format.specs.Parts.Counts.{with_ops}
use Rattle.scenario_format.specs.Scripts.Script.{read_op as op_at}
use Rattle.script_read.proofs.script.each_op.Given as goal

abbrev pub invariant-loop-value : goal.invariant-loop-value
invariant-loop-value l = record {
  rest : each (λ before. op_at l.pages before (with_ops l.fn.counts before)) (spot_of l.here) l.before
      (map view (drop l.value-index l.items))
      ≡ each (λ before. op_at l.pages before (with_ops l.fn.counts before)) (spot_of l.here) [] (map view l.items);
  valid : EachAfter IsOp [] l.before;
  own : AllByRecursion (LoadsFrom l.pages) l.before;
  counted : l.counts ≡ with_ops l.fn.counts l.before;
  within : IsWithin l.counts;
}
