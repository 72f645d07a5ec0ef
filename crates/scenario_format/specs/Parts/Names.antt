-- The names that a script makes and uses, as they are read.
use Rattle.std.specs.Prelude.{ℕ, ◌+◌, List, [], ◌∷◌, Bool, Option, Some, None, Ok, if◌then◌else◌}
use Rattle.std.specs.List.{list_any}
use Rattle.busdma_base.specs.declared.scenarios.script.Op.{Op}
use Rattle.busdma_base.specs.declared.scenarios.operations.NameUse.{NameUse}
use Rattle.busdma_base.specs.Scenarios.Names.{makes, makes_for}
use Rattle.scenario_format.specs.Json.DocumentPlaces.{DocumentPlace, key}
use Rattle.scenario_format.specs.Json.Read.{Read, ◌>>=◌, refuse}
use Rattle.scenario_format.specs.Json.Field.{Spot, field, required}
use Rattle.scenario_format.specs.Json.Text.{read_name}
use Rattle.scenario_format.specs.declared.refusal.RefusalKind.TheVariants.{BadField, UnknownName}
use Rattle.busdma_base.specs.declared.scenarios.operations.NameUse.TheVariants as use_as

-- the place of the first operation that passes the test; the first of the list has the place n
abbrev pub first_operation_place : (Op → Bool) → ℕ → List Op → Option ℕ
first_operation_place test n [] = None
first_operation_place test n (o ∷ ops) = if test o then Some n else first_operation_place test (n + 1) ops

-- a name; one that an earlier operation made is refused
abbrev pub new_or : List Op → DocumentPlace → List ℕ → Read (List ℕ)
new_or before place name = if list_any (makes name) before then refuse BadField place else Ok name

-- the name at a key; one that an earlier operation made is refused
unfoldable pub new_name : List ℕ → List Op → Spot → Read (List ℕ)
new_name field before here = required field here >>= (λ spot. read_name spot >>= new_or before (key here.place field))

-- the operation that made a name; a name that none made for this use is refused
abbrev pub known_or : DocumentPlace → Option ℕ → Read ℕ
known_or place None = refuse UnknownName place
known_or place (Some n) = Ok n

-- the earlier operation that made the name at this place, for this use
unfoldable pub read_use : NameUse → List Op → Spot → Read ℕ
read_use u before here =
    read_name here >>= (λ name. known_or here.place (first_operation_place (makes_for u name) 0 before))

-- the earlier operation that made the name at a key, for this use
unfoldable pub used_name : NameUse → List ℕ → List Op → Spot → Read ℕ
used_name u field before here = required field here >>= read_use u before

-- the earlier operation that made the parent tag, or none if no parent is given
abbrev pub parent_or_none : List Op → Option Spot → Read (Option ℕ)
parent_or_none before None = Ok None
parent_or_none before (Some spot) = read_use use_as.Tag before spot >>= (λ n. Ok (Some n))
