use Rattle.std.proofs.Common.{◌≡◌, ◌<◌, ◌≤◌, ◌∙◌, get_or, leb, true, false, refl, ap, subst, arith}
use Rattle.std.proofs.lemmas.Bool.{leb-true, leb-false}
use Rattle.std.proofs.lemmas.List.{get_or_default}
use Rattle.loan_table.specs.Rows.{LiesFromTo}
use Rattle.loan_table.proofs.Addresses.{no_extent}
use Rattle.loan_table.proofs.Hulls.{loosened}
use Rattle.loan_table.proofs.buffer.hull_of.Goals as goal

pub loop-extent-preserved : goal.loop-extent-preserved
loop-extent-preserved c k d lt =
    let i = c.loop-extent.extent-index in
    let first = c.widened.result.0 in
    let end = c.widened.result.1 in
    let xs = c.args.extents.now in
    elim (leb i k) as (λ b. leb i k ≡ b → LiesFromTo first end (get_or xs k d)) [
      | true ↦ λ e.
          let from : i ≤ k = leb-true i k e in
          let is : i ≡ k = omega (arith, lt, from) in
          subst (LiesFromTo first end) (get_or_default xs i no_extent d c.loop-extent-test.true
          ∙ ap (λ j. get_or xs j d) is)
          c.widened.ensures.within
      | false ↦ λ e.
          let before : k < i = leb-false i k e in
          loosened c.loop-extent.first c.loop-extent.end first end (get_or xs k d) c.widened.ensures.first
          c.widened.ensures.end (c.loop-extent.invariant k d before)
    ] refl
