-- Lists, read item by item.
use Rattle.std.specs.Prelude.{List, [], ◌∷◌, ◌++◌, length, option_map, Ok}
use Rattle.serde_json.specs.Data.{Data, Items, no_items, item}
use Rattle.serde_json.specs.Find.{as_array}
use Rattle.scenario_format.specs.Json.Read.{Read, ◌>>=◌}
use Rattle.scenario_format.specs.Json.Field.{Spot, item_of}
use Rattle.scenario_format.specs.Json.Number.{of_kind}

-- the items as a list
abbrev pub list_of : Items → List Data
list_of no_items = []
list_of (item d ds) = d ∷ list_of ds

-- the items of a list
unfoldable pub read_items : Spot → Read (List Data)
read_items here = of_kind here.place (option_map list_of (as_array here.value))

-- each item is read by itself and by what was read of the list before it
abbrev pub each : {A : Type 0} → (List A → Spot → Read A) → Spot → List A → List Data → Read (List A)
each read here before [] = Ok before
each read here before (d ∷ ds) =
    read before (item_of here (length before) d) >>= (λ x. each read here (before ++ x ∷ []) ds)
