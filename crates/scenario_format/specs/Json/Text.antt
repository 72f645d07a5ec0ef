-- Texts: plain texts, names, and bytes as two hexadecimal digits each.
use Rattle.std.specs.Prelude.{ℕ, ◌+◌, ◌*◌, List, [], ◌∷◌, Option, Some, None, option_map, option_and_then}
use Rattle.std.specs.Prelude.{if◌then◌else◌}
use Rattle.serde_json.specs.Data.{Data}
use Rattle.serde_json.specs.Find.{as_str}
use Rattle.busdma_base.specs.Scenarios.Names.{is_name}
use Rattle.scenario_format.specs.Json.Read.{Read}
use Rattle.scenario_format.specs.Json.Field.{Spot}
use Rattle.scenario_format.specs.Json.Number.{of_kind, hex_digit}

-- the text at this place
unfoldable pub read_text : Spot → Read (List ℕ)
read_text here = of_kind here.place (as_str here.value)

-- the text of a value, if it is a name
abbrev pub name_in : Data → Option (List ℕ)
name_in d = option_and_then (λ s. if is_name s then Some s else None) (as_str d)

-- the name at this place
unfoldable pub read_name : Spot → Read (List ℕ)
read_name here = of_kind here.place (name_in here.value)

-- the byte of two hexadecimal digits
abbrev pub hex_byte : ℕ → ℕ → Option ℕ
hex_byte high low = option_and_then (λ x. option_map (λ y. 16 * x + y) (hex_digit low)) (hex_digit high)

-- the bytes of a text of hexadecimal digits: two digits for each byte, and none left over
abbrev pub hex_bytes : List ℕ → Option (List ℕ)
hex_bytes [] = Some []
hex_bytes (a ∷ []) = None
hex_bytes (a ∷ b ∷ more) = option_and_then (λ x. option_map (λ ys. x ∷ ys) (hex_bytes more)) (hex_byte a b)

-- the bytes that the text at this place gives in hexadecimal digits
unfoldable pub read_bytes : Spot → Read (List ℕ)
read_bytes here = of_kind here.place (option_and_then hex_bytes (as_str here.value))
