-- Numbers: integers below 2^64, or texts of hexadecimal digits after `0x`.
use Rattle.std.specs.Prelude.{ℕ, ◌+◌, ◌*◌, ◌-◌, ◌==◌, ◌&&◌, List, [], ◌∷◌, length, drop, Option, Some, None}
use Rattle.std.specs.Prelude.{option_and_then, Ok, if◌then◌else◌, nat_le, slice_index}
use Rattle.serde_json.specs.Data.{Data, null, boolean, number, string, array, object}
use Rattle.serde_json.specs.Find.{as_u64}
use Rattle.scenario_format.specs.Json.DocumentPlaces.{DocumentPlace}
use Rattle.scenario_format.specs.Json.Read.{Read, ◌>>=◌, refuse}
use Rattle.scenario_format.specs.Json.Field.{Spot, field, required}
use Rattle.scenario_format.specs.declared.refusal.RefusalKind.TheVariants.{BadField}

-- the value, if it is of the right kind; otherwise the field is bad
abbrev pub of_kind : {A : Type 0} → DocumentPlace → Option A → Read A
of_kind place None = refuse BadField place
of_kind place (Some x) = Ok x

-- the value of a hexadecimal digit of either case
abbrev pub hex_digit : ℕ → Option ℕ
hex_digit b =
    if nat_le 48 b && nat_le b 57 then Some (b - 48)
    else (if nat_le 65 b && nat_le b 70 then Some (b - 55)
    else (if nat_le 97 b && nat_le b 102 then Some (b - 87)
    else None))

-- the number whose first hexadecimal digits have the value `high`, and whose other digits are these
abbrev pub hex_after : ℕ → List ℕ → Option ℕ
hex_after high [] = Some high
hex_after high (b ∷ bs) = option_and_then (λ d. hex_after (16 * high + d) bs) (hex_digit b)

-- the number of a text that is `0x` and 1 to 16 hexadecimal digits
abbrev pub hex_number : List ℕ → Option ℕ
hex_number s =
    if (slice_index s 0 == 48) && (slice_index s 1 == 120) && nat_le 3 (length s) && nat_le (length s) 18
    then hex_after 0 (drop 2 s) else None

-- the number that a value is: an integer below 2^64, or a text of hexadecimal digits after `0x`. JSON takes one with a
-- sign, a fraction or an exponent as negative or as a float.
abbrev pub number_in : Data → Option ℕ
number_in null = None
number_in (boolean b) = None
number_in (number n) = as_u64 n
number_in (string s) = hex_number s
number_in (array ds) = None
number_in (object ms) = None

-- the number at this place
unfoldable pub read_number : Spot → Read ℕ
read_number here = of_kind here.place (number_in here.value)

-- the number at a key; a missing one is refused
unfoldable pub number_field : List ℕ → Spot → Read ℕ
number_field name here = required name here >>= read_number

-- the number of a field, or the default if there is no field
abbrev pub or_default : ℕ → Option Spot → Read ℕ
or_default n None = Ok n
or_default n (Some spot) = read_number spot

-- the number at a key, or the default if there is none
unfoldable pub number_or : List ℕ → ℕ → Spot → Read ℕ
number_or name n here = or_default n (field name here)
