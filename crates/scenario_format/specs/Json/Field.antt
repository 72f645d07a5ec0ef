-- A value of a document with its place, and the fields of an object.
use Rattle.std.specs.Prelude.{ℕ, List, Bool, Option, Some, None, option_map, Ok, if◌then◌else◌, ⊤}
use Rattle.std.specs.List.{list_any}
use Rattle.std.specs.Str.{bytes_eq}
use Rattle.serde_json.specs.Data.{Data, Members, no_members, member}
use Rattle.serde_json.specs.Find.{get, as_object}
use Rattle.scenario_format.specs.Json.DocumentPlaces.{DocumentPlace, key, item}
use Rattle.scenario_format.specs.Json.Read.{Read, ◌>>=◌, refuse}
use Rattle.scenario_format.specs.declared.refusal.RefusalKind.TheVariants.{BadField}

-- a value of a document, with its place
pub record Spot : Type 0 where
  pub place : DocumentPlace
  pub value : Data

-- the value at a key, if there is one
abbrev pub field : List ℕ → Spot → Option Spot
field name here = option_map (λ d. record { place = key here.place name; value = d }) (get name here.value)

-- an item of the list at this place
abbrev pub item_of : Spot → ℕ → Data → Spot
item_of here n d = record { place = item here.place n; value = d }

-- the field that was looked up; a missing one is refused
abbrev pub found_or : DocumentPlace → Option Spot → Read Spot
found_or place None = refuse BadField place
found_or place (Some spot) = Ok spot

-- the value at a key; a missing one is refused with the key's place
unfoldable pub required : List ℕ → Spot → Read Spot
required name here = found_or (key here.place name) (field name here)

-- the members, or a refusal if the value is no object
abbrev pub object_or : DocumentPlace → Option Members → Read Members
object_or place None = refuse BadField place
object_or place (Some ms) = Ok ms

-- the members of an object
abbrev pub members_of : Spot → Read Members
members_of here = object_or here.place (as_object here.value)

-- a name is one of these
abbrev pub one_of : List (List ℕ) → List ℕ → Bool
one_of table name = list_any (λ k. bytes_eq k name) table

-- the first key, in byte order, that is not known
abbrev pub unknown_key : (List ℕ → Bool) → Members → Option (List ℕ)
unknown_key known no_members = None
unknown_key known (member name d more) = if known name then unknown_key known more else Some name

-- an unknown key, if there is one, is refused with its place
abbrev pub no_key_beside : DocumentPlace → Option (List ℕ) → Read ⊤
no_key_beside place None = Ok tt
no_key_beside place (Some name) = refuse BadField (key place name)

-- the value is an object, and each of its keys is known
unfoldable pub only_keys : (List ℕ → Bool) → Spot → Read ⊤
only_keys known here = members_of here >>= (λ ms. no_key_beside here.place (unknown_key known ms))
