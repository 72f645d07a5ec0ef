use Rattle.std.proofs.Common.{◌≡◌, ℕ, List, Bool}
use Rattle.std.specs.List.{list_any}
use Rattle.std.specs.Str.{bytes_eq}
use Rattle.serde_json.specs.View.{members_view}
use Rattle.scenario_format.specs.Json.Field.{unknown_key}
use Rattle.json_fields.proofs.node.unknown_key.Given as goal

abbrev pub invariant-loop-key : goal.invariant-loop-key
invariant-loop-key l =
    let known : List ℕ → Bool = λ key. list_any (λ k. bytes_eq k.now key) l.table in
    unknown_key known (members_view l.key-iterator) ≡ unknown_key known (members_view l.members.entries)
