use Rattle.std.proofs.Common.{rules, ◌≡◌, Some, ℕ, List, Bool, true, false, sym, ap, ◌∙◌}
use Rattle.std.specs.List.{list_any}
use Rattle.std.specs.Str.{bytes_eq}
use Rattle.std.specs.Map.Iter.{deref_pair}
use Rattle.std.proofs.lemmas.Map.Iter.{rest_more}
use Rattle.json_fields.proofs.Keys.{known_first, unknown_first}
use Rattle.json_fields.proofs.node.unknown_key.Goals as goal

pub returns-then-not-is_listed : goal.returns-then-not-is_listed
returns-then-not-is_listed c =
    let rest = rest_more deref_pair _ _ _ (c.in-Some.key, c.in-Some.field-0-1) c.in-Some.is c.next.ensures.steps in
    let known : List ℕ → Bool = λ key. list_any (λ k. bytes_eq k.now key) c.args.table.now in
    let other : known c.as_str-name.result.now ≡ false = search rules in
    ap Some c.as_str-name.ensures.value
    ∙ unknown_first known _ _ _ rest (ap known (sym c.as_str-name.ensures.value) ∙ other) ∙ c.loop-key.invariant

pub loop-key-preserved : goal.loop-key-preserved
loop-key-preserved c =
    let rest = rest_more deref_pair _ _ _ (c.in-Some.key, c.in-Some.field-0-1) c.in-Some.is c.next.ensures.steps in
    let known : List ℕ → Bool = λ key. list_any (λ k. bytes_eq k.now key) c.args.table.now in
    let listed : known c.as_str-name.result.now ≡ true = search rules in
    known_first known _ _ _ rest (ap known (sym c.as_str-name.ensures.value) ∙ listed) ∙ c.loop-key.invariant
