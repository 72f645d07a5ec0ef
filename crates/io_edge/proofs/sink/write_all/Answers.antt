use Rattle.std.proofs.Common.{rules, ◌≡◌, ℕ, ◌<◌, List, [], ap, ◌∙◌, drop, length, length-drop, refl, arith, zero, suc}
use Rattle.io_edge.specs.declared.sink.Put.TheVariants.{Took}
use Rattle.io_edge.proofs.Taken.{appends_more}
use Rattle.io_edge.proofs.sink.write_all.Goals as goal

-- the count is not 0, because 0 would mean an empty piece
is_some : (n : ℕ) (piece : List ℕ) → 0 < length piece → (n ≡ 0 → piece ≡ []) → 0 < n
is_some zero piece any none = absurd (omega (arith, ap length (none refl)))
is_some (suc n) piece any none = omega arith

pub loop-done-preserved : goal.loop-done-preserved
loop-done-preserved g c =
    let wrote = c.in-Took.ensures in
    let done = c.loop-done.done in
    let n = c.in-Took.n in
    let text = c.args.text.now in
    let rest : c.split_at.result.1.now ≡ drop done text = search rules in
    let left : length c.split_at.result.1.now ≡ length (drop done text) = ap length rest in
    let some : 0 < n =
    is_some n _ (omega (arith, length-drop done text)) (λ none. wrote.some (ap Took none)) in
    record {
      within = omega (arith, wrote.fits, length-drop done text);
      held = appends_more done n text _ _ _ c.loop-done.invariant.held (rw (← rest) wrote.held);
      unfailed = wrote.unfailed (λ is. absurd (cc)) ∙ c.loop-done.invariant.unfailed;
      untouched = λ none. absurd (omega arith);
    }
