use Rattle.std.proofs.Common.{◌≡◌, ℕ, ◌<◌, [], ◌∷◌, length, ap, ◌∙◌, arith}
use Rattle.std.specs.Prelude.{All}
use Rattle.std.proofs.lemmas.List.Elements.{All-cons, All-nil}
use Rattle.busdma_machine.specs.declared.bounce.hold.HoldEntry.{HoldEntry}
use Rattle.lane_merge.proofs.tests.local_steps_stand_before_the_next_hold.Goals as goal

within : (n : ℕ) (h i j : HoldEntry) → n ≡ 2 → h.lane.0 ≡ 0 → i.lane.0 ≡ 1 → j.lane.0 ≡ 0 →
    All (λ (x : HoldEntry). x.lane.0 < n) (h ∷ i ∷ j ∷ [])
within n h i j two first second third =
    All-cons (λ (x : HoldEntry). x.lane.0 < n) h (i ∷ j ∷ []) (omega arith)
    (All-cons (λ (x : HoldEntry). x.lane.0 < n) i (j ∷ []) (omega arith)
    (All-cons (λ (x : HoldEntry). x.lane.0 < n) j [] (omega arith) (All-nil (λ (x : HoldEntry). x.lane.0 < n))))

pub merge-requires : goal.merge-requires
merge-requires g c =
    within (length c.as_slice.result.now) c.hold.result c.hold-2.result c.hold-3.result
    (ap length c.as_slice.ensures.value ∙ c.in_ok-logs.ensures)
    c.hold.ensures c.hold-2.ensures c.hold-3.ensures

pub merge_owned-requires : goal.merge_owned-requires
merge_owned-requires g c =
    within (length c.in_ok-logs.logs.items) c.hold.result c.hold-2.result c.hold-3.result c.in_ok-logs.ensures
    c.hold.ensures c.hold-2.ensures c.hold-3.ensures
