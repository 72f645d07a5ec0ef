-- The place and the value of a node of a document.
use Rattle.serde_json.specs.Data.{Data}
use Rattle.serde_json.specs.View.{view}
use Rattle.json_fields.specs.Place.{path_place}
use Rattle.json_fields.specs.declared.node.Node.{Node}
use Rattle.scenario_format.specs.Json.Field.{Spot}

-- the place and the value of a node of the code
abbrev pub spot_of : Node → Spot
spot_of n = record { place = path_place n.path; value = view n.value.now }

-- another value at the same place
abbrev pub spot_with : Spot → Data → Spot
spot_with here d = record { place = here.place; value = d }
