use Rattle.std.proofs.Common.{◌≡◌, ℕ, ◌*◌, ◌++◌, List, drop, option_map, length, arith, length-drop, sym, ap, ◌∙◌}
use Rattle.scenario_format.specs.Json.Text.{hex_bytes}
use Rattle.json_fields.proofs.Bytes.{hex_bytes-more, hex_bytes-one}
use Rattle.json_fields.proofs.text.hex_bytes.Goals as goal

pub loop-i-preserved : goal.loop-i-preserved
loop-i-preserved c =
    let read =
    hex_bytes-more c.loop-i.out.items _ c.loop-i.i c.in-Some.byte (omega arith)
    (sym c.hex_byte.ensures ∙ c.in-Some.is) in
    rw c.in_ok-push.ensures.items (read ∙ c.loop-i.invariant)

pub returns-else-bytes-eq0 : goal.returns-else-bytes-eq0
returns-else-bytes-eq0 c =
    let s : List ℕ = c.as_bytes-bytes.result.now in
    let one : length (drop (2 * c.loop-i.i) s) ≡ 1 = omega (arith, length-drop (2 * c.loop-i.i) s) in
    ap (option_map (λ ys. c.loop-i.out.items ++ ys)) (sym (hex_bytes-one _ one)) ∙ c.loop-i.invariant
    ∙ ap hex_bytes c.as_bytes-bytes.ensures.value
