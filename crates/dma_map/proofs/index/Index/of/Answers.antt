use Rattle.std.proofs.Common.{◌≡◌, ◌<◌, ◌∙◌, [], ◌∷◌, ◌++◌, length, take, drop, sym, subst, ap, arith, length-set}
use Rattle.std.proofs.lemmas.List.{take_min, drop_min, take_more_set}
use Rattle.dma_map.specs.Parts.{ArePartsOf, IsMapPart}
use Rattle.dma_map.proofs.Parts.{ArePartsOf-push}
use Rattle.dma_map.proofs.index.Index.of.Goals as goal

pub loop-part-preserved : goal.loop-part-preserved
loop-part-preserved c =
    let rest = c.loop-part.rest.now in
    let parts = c.loop-part.part-items in
    let index = c.loop-part.part-index in
    let most = c.part_len-most.result in
    let part = c.of.result in
    let inside : index < length parts = omega (arith, c.loop-part.invariant.sixteen) in
    let first : c.split_at.result.0.now ≡ take most rest =
    c.split_at.ensures.front ∙ ap (λ n. take n rest) c.min.ensures ∙ take_min most rest in
    let second : c.split_at.result.1.now ≡ drop most rest =
    c.split_at.ensures.back ∙ ap (λ n. drop n rest) c.min.ensures ∙ drop_min most rest in
    let more =
    ArePartsOf-push most (take index parts) part c.args.segments.now rest c.loop-part.invariant.cut
    (subst (λ ss. IsMapPart ss part) first c.of.ensures) in
    record {
      sixteen = length-set parts index part ∙ c.loop-part.invariant.sixteen;
      cut =
          subst (λ ps. ArePartsOf most ps c.args.segments.now c.split_at.result.1.now)
          (sym (take_more_set parts index part inside))
          (subst (λ ss. ArePartsOf most (take index parts ++ part ∷ []) c.args.segments.now ss) (sym second) more);
      left = omega (arith, c.loop-part.invariant.left, c.split_at.ensures.back_len);
    }
