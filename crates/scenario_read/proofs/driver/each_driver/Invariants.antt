use Rattle.std.proofs.Common.{◌≡◌, [], drop, map, length}
use Rattle.serde_json.specs.View.{view}
use Rattle.busdma_machine.specs.Each.{EachAfter}
use Rattle.busdma_base.specs.Scenarios.Valid.{IsDriver, read_of, loaded_of}
use Rattle.json_fields.specs.Field.{spot_of}
use Rattle.scenario_format.specs.Json.Items.{each}
use Rattle.script_fields.specs.Counts.{IsWithin}
use Rattle.scenario_format.specs.Scenarios.Driver.{read_driver as driver_at}
use Rattle.scenario_read.proofs.driver.each_driver.Given as goal

abbrev pub invariant-loop-value : goal.invariant-loop-value
invariant-loop-value l = record {
  rest : each (driver_at l.frames) (spot_of l.here) l.drivers.items (map view (drop l.value-index l.items))
      ≡ each (driver_at l.frames) (spot_of l.here) [] (map view l.items);
  valid : EachAfter (IsDriver l.frames) [] l.drivers.items;
  count : length l.drivers.items ≡ l.value-index;
  read : l.counts.read ≡ read_of l.drivers.items;
  loaded : l.counts.loaded ≡ loaded_of l.drivers.items;
  within : IsWithin l.counts;
}
