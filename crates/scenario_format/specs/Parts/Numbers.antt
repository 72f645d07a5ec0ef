-- Numbers of fewer bits than a scenario's numbers have.
use Rattle.std.specs.Prelude.{ℕ, ◌^◌, List, Ok, if◌then◌else◌, nat_lt}
use Rattle.scenario_format.specs.Json.DocumentPlaces.{DocumentPlace, key}
use Rattle.scenario_format.specs.Json.Read.{Read, ◌>>=◌, refuse}
use Rattle.scenario_format.specs.Json.Field.{Spot}
use Rattle.scenario_format.specs.Json.Number.{number_field, number_or}
use Rattle.scenario_format.specs.declared.refusal.RefusalKind.TheVariants.{BadField}

-- a number; one that is not below the bound is refused
abbrev pub below : ℕ → DocumentPlace → ℕ → Read ℕ
below bound place n = if nat_lt n bound then Ok n else refuse BadField place

-- a number of 32 bits at a key
unfoldable pub short_field : List ℕ → Spot → Read ℕ
short_field name here = number_field name here >>= below (2 ^ 32) (key here.place name)

-- a number of 32 bits at a key, or its default if none is given
unfoldable pub short_or : List ℕ → ℕ → Spot → Read ℕ
short_or name default here = number_or name default here >>= below (2 ^ 32) (key here.place name)

-- a byte that is given as a number at a key
unfoldable pub byte_field : List ℕ → Spot → Read ℕ
byte_field name here = number_field name here >>= below 256 (key here.place name)

-- a byte that is given as a number at a key, or its default if none is given
unfoldable pub byte_or : List ℕ → ℕ → Spot → Read ℕ
byte_or name default here = number_or name default here >>= below 256 (key here.place name)
