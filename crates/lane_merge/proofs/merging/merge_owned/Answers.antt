use Rattle.std.proofs.Common.{◌≡◌, ◌+◌, ◌<◌, ◌∷◌, suc, length, sym, ap, ◌∙◌, subst, drop, slice_index_or, drop-cons}
use Rattle.std.proofs.Common.{arith, add-one}
use Rattle.busdma_machine.specs.declared.bounce.hold.HoldEntry.{HoldEntry}
use Rattle.ideal_runs.proofs.Seams.{length-slice_set}
use Rattle.lane_merge.proofs.Taking.{taken}
use Rattle.lane_merge.proofs.merging.merge_owned.Goals as goal

pub loop-hold-preserved : goal.loop-hold-preserved
loop-hold-preserved c =
    let h = c.hold-item.result in
    let k = c.loop-hold.hold-index in
    let inv = c.loop-hold.invariant in
    let e = c.in_ok-take_through_hold.ensures in
    let holds = c.args.holds.now in
    let read : slice_index_or holds k h ≡ h = sym c.hold-item.is in
    let next : drop k holds ≡ h ∷ drop (k + 1) holds =
    drop-cons holds k h c.loop-hold-test.true
    ∙ (ap (λ (x : HoldEntry). x ∷ drop (suc k) holds) read ∙ ap (λ n. h ∷ drop n holds) (sym (add-one k))) in
    let below : h.lane.0 < length c.args.logs.items =
    subst (λ (x : HoldEntry). x.lane.0 < length c.args.logs.items) read (c.requires k h c.loop-hold-test.true) in (
      length-slice_set c.loop-hold.logs.items h.lane.0 c.take_through_hold.new.log ∙ inv.0,
      taken (λ q. q.items) c.loop-hold.entries.items c.take_through_hold.new.entries.items h (drop k holds)
          (drop (k + 1) holds) c.loop-hold.logs.items c.index_mut.result.now c.take_through_hold.new.log next
          (omega arith) c.index_mut.ensures.value e.entries e.log ∙ inv.1,
    )
