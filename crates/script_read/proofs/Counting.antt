-- Counts after one more operation or item.
use Rattle.std.proofs.Common.{◌≡◌, ℕ, List, [], ◌∷◌, ◌++◌, length, sum_by, arith, length-append, refl}
use Rattle.std.proofs.lemmas.List.Sums.{sum_by-append}
use Rattle.busdma_base.specs.declared.scenarios.script.Op.{Op}
use Rattle.busdma_base.specs.declared.scenarios.script.Item.{Item}
use Rattle.busdma_base.specs.Scenarios.Operations.{items_of, read_by, read_by_item, loaded_by}
use Rattle.scenario_format.specs.declared.counts.Counts.{Counts}
use Rattle.script_fields.specs.Counts.{with_op, having_read, IsQuiet}
use Rattle.scenario_format.specs.Parts.Counts.{with_ops, with_items, one_step_counted}

same : (a b c a' b' c' : ℕ) → a ≡ a' → b ≡ b' → c ≡ c'
    → let x : Counts = record { steps = a; read = b; loaded = c } in let y : Counts =
    record { steps = a'; read = b'; loaded = c' } in x ≡ y
same a b c a' b' c' p q r = cc

pub with_op_quiet : (c : Counts) (o : Op) → IsQuiet o → c ≡ with_op c o
with_op_quiet c o h =
    same _ _ _ _ _ _ (omega (arith, h.no_items)) (omega (arith, h.reads_nothing)) (rw h.loads_nothing (omega arith))

pub with_ops_more : (c : Counts) (ops : List Op) (o : Op) →
    with_op (one_step_counted (with_ops c ops)) o ≡ with_ops c (ops ++ o ∷ [])
with_ops_more c ops o =
    same _ _ _ _ _ _
    (rw (length-append ops (o ∷ []), sum_by-append (λ p. length (items_of p)) ops (o ∷ [])) (omega arith))
    (rw (sum_by-append read_by ops (o ∷ [])) (omega arith))
    (rw (sum_by-append loaded_by ops (o ∷ [])) (omega arith))

pub with_items_more : (c : Counts) (items : List Item) (i : Item)
    → having_read (one_step_counted (with_items c items)) (read_by_item i) ≡ with_items c (items ++ i ∷ [])
with_items_more c items i =
    same _ _ _ _ _ _ (rw (length-append items (i ∷ [])) (omega arith))
    (rw (sum_by-append read_by_item items (i ∷ [])) (omega arith)) refl
