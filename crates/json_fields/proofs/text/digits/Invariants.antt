use Rattle.std.proofs.Common.{◌≡◌, ◌<◌, ◌^◌, drop}
use Rattle.scenario_format.specs.Json.Number.{hex_after}
use Rattle.json_fields.proofs.text.digits.Given as goal

abbrev pub invariant-loop-b : goal.invariant-loop-b
invariant-loop-b l = (hex_after l.number (drop l.b-index l.bytes) ≡ hex_after 0 l.bytes) × (l.number < 16 ^ l.b-index)
