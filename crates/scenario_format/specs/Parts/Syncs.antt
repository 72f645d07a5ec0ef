-- What a sync says, as an operation and as an item.
use Rattle.std.specs.Prelude.{List, [], ◌∷◌, Ok, codes}
use Rattle.busdma_base.specs.declared.scenarios.operations.NameUse.TheVariants as use_as
use Rattle.busdma_base.specs.declared.scenarios.script.Op.{Op}
use Rattle.scenario_format.specs.Json.Field.{Spot, only_keys, one_of}
use Rattle.scenario_format.specs.Json.Number.{number_field}
use Rattle.scenario_format.specs.Json.Read.{Read, ◌>>=◌}
use Rattle.scenario_format.specs.declared.sync_fields.RangeFields.{RangeFields}
use Rattle.scenario_format.specs.declared.sync_fields.SyncFields.{SyncFields}
use Rattle.scenario_format.specs.Parts.Flags.{ops_field}
use Rattle.scenario_format.specs.Parts.Names.{used_name}

-- a sync of all bytes of a map's load
unfoldable pub read_sync_fields : List Op → Spot → Read SyncFields
read_sync_fields before here =
    only_keys (one_of (codes "op" ∷ codes "map" ∷ codes "ops" ∷ [])) here >>= (λ _.
    used_name use_as.Map (codes "map") before here >>= (λ map.
    ops_field here >>= (λ ops.
    Ok (record { map = map; ops = ops }))))

-- a sync of a range of a map's load
unfoldable pub read_range_fields : List Op → Spot → Read RangeFields
read_range_fields before here =
    only_keys (one_of (codes "op" ∷ codes "map" ∷ codes "off" ∷ codes "len" ∷ codes "ops" ∷ [])) here >>= (λ _.
    used_name use_as.Map (codes "map") before here >>= (λ map.
    number_field (codes "off") here >>= (λ off.
    number_field (codes "len") here >>= (λ n.
    ops_field here >>= (λ ops.
    Ok (record { map = map; off = off; len = n; ops = ops }))))))
