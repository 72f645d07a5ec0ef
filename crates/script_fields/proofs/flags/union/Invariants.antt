use Rattle.std.proofs.Common.{◌≡◌, drop, map}
use Rattle.serde_json.specs.View.{view}
use Rattle.json_fields.specs.Field.{spot_of}
use Rattle.scenario_format.specs.Parts.Flags.{flags_from}
use Rattle.script_fields.proofs.flags.union.Given as goal

abbrev pub invariant-loop-value : goal.invariant-loop-value
invariant-loop-value l =
    (flags_from l.set (spot_of l.here) l.place l.bits (map view (drop l.value-index l.items))
    ≡ flags_from l.set (spot_of l.here) 0 0 (map view l.items)) × (l.place ≡ l.value-index)
