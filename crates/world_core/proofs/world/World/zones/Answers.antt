use Rattle.std.proofs.Common.{◌≡◌, ◌∙◌, ◌+◌, ◌<◌, ap, arith, slice_index}
use Rattle.std.proofs.lemmas.Result.{IfOk-weaker}
use Rattle.busdma_machine.specs.Bounce.Account.{counts}
use Rattle.ideal_world.specs.World.{bounced}
use Rattle.world_core.specs.Ideal.{ideal_world}
use Rattle.world_core.proofs.Counting.{counts-are}
use Rattle.world_core.proofs.world.World.zones.Goals as goal

pub returns : goal.returns
returns c =
    let w = ideal_world c.args.self.now in
    IfOk-weaker c.counts.result _ _
    (λ cs are. counts-are w 0 w.account.zones cs are.count
    (λ k d lt.
    let low : k < c.loop-place.place =
    omega (arith, lt, are.count, c.zone_count-place-end.ensures, c.loop-place-test.false) in
    let share : slice_index c.deref.result.now k ≡ bounced w k =
    ap (λ bs. slice_index bs k) c.deref.ensures.value ∙ c.loop-place.invariant.each k low in
    let at : k ≡ 0 + k = omega arith in
    are.each k d lt ∙ ap (λ b. counts w.account b k) share ∙ ap (λ j. counts w.account (bounced w j) j) at))
    c.counts.ensures
