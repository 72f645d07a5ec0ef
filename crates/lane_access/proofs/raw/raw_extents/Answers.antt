use Rattle.std.proofs.Common.{◌≡◌, ℕ, ◌+◌, ◌%◌, ◌++◌, true, [], ◌∷◌, option_map, is_some, unwrap_or, sym, ap, ◌∙◌}
use Rattle.std.proofs.Common.{subst, arith}
use Rattle.std.specs.List.{AllByRecursion}
use Rattle.busdma_machine.specs.declared.machine.address.Extent.{Extent}
use Rattle.busdma_machine.specs.declared.machine.address.Pa.{Pa}
use Rattle.busdma_machine.specs.Runs.{addresses}
use Rattle.busdma_rules.specs.Iommu.Space.{translated}
use Rattle.lane_state.specs.Ideal.{ideal_of}
use Rattle.lane_access.specs.Raw.{IsInFrame}
use Rattle.lane_access.proofs.RawRuns.{all-push, raw-more, raw-offset}
use Rattle.lane_access.proofs.raw.raw_extents.Goals as goal

pub loop-done-preserved : goal.loop-done-preserved
loop-done-preserved c =
    let s = (ideal_of c.args.holdings.now).spaces c.args.tag in
    let done = c.loop-done.done in
    let at : ℕ = c.args.addr + done in
    let part : Extent = record { pa = c.in-Some.pa; len = c.min-here.result } in
    let some : is_some (translated s at) ≡ true = c.requires.reached done c.loop-done-test.true in
    let is : c.in-Some.pa.0 ≡ unwrap_or (translated s at) 0 =
    ap (λ o. unwrap_or o 0) (sym (ap (option_map (λ (p : Pa). p.0)) c.in-Some.is) ∙ c.translate.ensures) in
    let offset : unwrap_or (translated s at) 0 % 4096 ≡ at % 4096 = raw-offset s at some in
    let items : c.push.new.self.items ≡ c.loop-done.parts.items ++ part ∷ [] = c.in_ok-push.ensures.items in
    record {
      to = omega arith;
      bytes = ap addresses items
          ∙ raw-more s c.loop-done.parts.items part c.args.addr done c.loop-done.invariant.bytes is (omega arith) some;
      in_frames = subst (AllByRecursion IsInFrame) (sym items)
          (all-push IsInFrame c.loop-done.parts.items part c.loop-done.invariant.in_frames
          (record { some = omega arith; in_frame = omega (arith, is, offset) }));
    }
