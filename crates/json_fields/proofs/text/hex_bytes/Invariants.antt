use Rattle.std.proofs.Common.{◌≡◌, ◌*◌, ◌++◌, drop, option_map}
use Rattle.scenario_format.specs.Json.Text.{hex_bytes}
use Rattle.json_fields.proofs.text.hex_bytes.Given as goal

abbrev pub invariant-loop-i : goal.invariant-loop-i
invariant-loop-i l = option_map (λ ys. l.out.items ++ ys) (hex_bytes (drop (2 * l.i) l.bytes)) ≡ hex_bytes l.bytes
