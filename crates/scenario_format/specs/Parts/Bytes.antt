-- What an operation writes.
use Rattle.std.specs.Prelude.{Bool, true, false, Option, Some, None, Ok, is_some, codes}
use Rattle.busdma_base.specs.declared.scenarios.script.Bytes.{Bytes}
use Rattle.busdma_base.specs.declared.scenarios.script.Bytes.TheVariants.{Listed, Filled}
use Rattle.scenario_format.specs.Json.Read.{Read, ◌>>=◌, refuse}
use Rattle.scenario_format.specs.Json.Field.{Spot, field}
use Rattle.scenario_format.specs.Json.Number.{number_field}
use Rattle.scenario_format.specs.Json.Text.{read_bytes}
use Rattle.scenario_format.specs.declared.refusal.RefusalKind.TheVariants.{BadField}
use Rattle.scenario_format.specs.Parts.Numbers.{byte_field}

-- the bytes that `hex` gives
unfoldable pub read_listed : Spot → Read Bytes
read_listed spot = read_bytes spot >>= (λ bytes. Ok (Listed bytes))

-- the bytes that `fill` and `len` give: one byte, `len` times
unfoldable pub read_filled : Spot → Read Bytes
read_filled here =
    byte_field (codes "fill") here >>= (λ byte.
    number_field (codes "len") here >>= (λ n.
    Ok (Filled byte n)))

-- the bytes of `hex`, or of `fill` with `len`; an operation that has neither `hex` nor `fill`, or has `hex` beside
-- another of the three, is refused at its own place
abbrev pub bytes_by : Option Spot → Bool → Bool → Spot → Read Bytes
bytes_by (Some hex) false false here = read_listed hex
bytes_by None true _ here = read_filled here
bytes_by _ _ _ here = refuse BadField here.place

-- the bytes that an operation writes
unfoldable pub read_written : Spot → Read Bytes
read_written here =
    bytes_by (field (codes "hex") here) (is_some (field (codes "fill") here)) (is_some (field (codes "len") here)) here
