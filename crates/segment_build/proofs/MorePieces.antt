-- Segments with the pieces of one more run.
use Rattle.std.proofs.Common.{◌≡◌, ◌+◌, ◌<◌, ◌≤◌, List, [], ◌∷◌, ◌++◌, length, true, false, cond, ap, sym, ◌∙◌, subst}
use Rattle.std.proofs.Common.{arith}
use Rattle.busdma_machine.specs.declared.machine.address.Segment.{Segment}
use Rattle.busdma_machine.specs.declared.tags.tag.TagLimits.{TagLimits}
use Rattle.busdma_rules.specs.Segments.Built.{AreTooMany, IsFew}
use Rattle.segment_build.specs.Joining.{extent_added, added_all}
use Rattle.busdma_rules.specs.Segments.Segmentation.{IsSegmentation, joint, may_join, segmentation}
use Rattle.segment_build.proofs.Cuts.{cut_all, one_segmentation}
use Rattle.busdma_rules.proofs.Segments.Cuts.{cut_is}
use Rattle.segment_build.proofs.SoFar.{cut_longer}

added_by_one : (t : TagLimits) (segs : List Segment) (p : Segment) → length (extent_added t segs p) ≤ length segs + 1
added_by_one t [] p = omega arith
added_by_one t (s ∷ []) p =
    elim (may_join t s p) as (λ b. length (cond b (joint s p ∷ []) (s ∷ p ∷ [])) ≤ 2)
    [ true ↦ omega arith | false ↦ omega arith ]
added_by_one t (s ∷ r ∷ rs) p = omega (arith, added_by_one t (r ∷ rs) p)

-- pieces give at most one segment more each
pub added_all_shorter : (t : TagLimits) (segs ps : List Segment) →
    length (added_all t segs ps) ≤ length segs + length ps
added_all_shorter t segs [] = omega arith
added_all_shorter t segs (p ∷ ps) = omega (arith, added_by_one t segs p, added_all_shorter t (extent_added t segs p) ps)

-- the segments of the pieces before, with more pieces
all_added : (t : TagLimits) (before segs ps : List Segment) → IsFew t before segs →
    added_all t segs ps ≡ segmentation t (before ++ ps)
all_added t before segs ps h =
    ap (λ xs. added_all t xs ps) (one_segmentation t segs before h.0) ∙ sym (cut_all t before ps)

pub few_with : (t : TagLimits) (before segs next ps : List Segment) → IsFew t before segs →
    next ≡ added_all t segs ps → length next ≤ t.nsegments → IsFew t (before ++ ps) next
few_with t before segs next ps h e few = (
  subst (λ xs. IsSegmentation t xs (before ++ ps)) (sym (e ∙ all_added t before segs ps h)) (cut_is t (before ++ ps)),
  few,
)

pub many_with : (t : TagLimits) (before segs ps : List Segment) → IsFew t before segs →
    t.nsegments < length (added_all t segs ps) → AreTooMany t (before ++ ps)
many_with t before segs ps h many =
    record {
      segments = segmentation t (before ++ ps);
      are = cut_is t (before ++ ps);
      many = subst (λ xs. t.nsegments < length xs) (all_added t before segs ps h) many;
    }

-- if segments are too many, they are too many with more pieces
pub still_many_with : (t : TagLimits) (before ps : List Segment) → AreTooMany t before → AreTooMany t (before ++ ps)
still_many_with t before ps h =
    record {
      segments = segmentation t (before ++ ps);
      are = cut_is t (before ++ ps);
      many =
          omega (
            arith,
            h.many,
            ap length (one_segmentation t h.segments before h.are),
            cut_longer t before ps,
          );
    }
