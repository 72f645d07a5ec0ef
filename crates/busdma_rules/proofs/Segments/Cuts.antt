-- The one segmentation of pieces.
use Rattle.std.proofs.Common.{◌≡◌, List, [], ◌∷◌, ◌++◌, map, true, false, cond, refl, ap}
use Rattle.std.specs.List.{flat_map}
use Rattle.busdma_machine.specs.declared.machine.address.Segment.{Segment}
use Rattle.busdma_machine.specs.declared.tags.tag.TagLimits.{TagLimits}
use Rattle.busdma_rules.specs.Segments.Segmentation.{PieceRun, segments_from, segmentation}
use Rattle.busdma_rules.specs.Segments.Segmentation.{joint, may_join, pieces_grown}
use Rattle.busdma_rules.specs.Segments.Segmentation.{segment_of, run_pieces, AreRuns, IsSegmentation}

-- runs of pieces, the first of which begins with s
record RunsFrom (t : TagLimits) (s : Segment) (ps segs : List Segment) : Type 0 where
  others : List Segment
  later : List PieceRun
  pieces : others ++ flat_map run_pieces later ≡ ps
  segments : pieces_grown s others ∷ map segment_of later ≡ segs
  runs : AreRuns t (record { first = s; others = others } ∷ later)

joined_run : (t : TagLimits) (s p : Segment) (ps segs : List Segment) → may_join t s p ≡ true →
    RunsFrom t (joint s p) ps segs → RunsFrom t s (p ∷ ps) segs
joined_run t s p ps segs j r =
    record {
      others = p ∷ r.others;
      later = r.later;
      pieces = ap (λ xs. p ∷ xs) r.pieces;
      segments = r.segments;
      runs = ((j, r.runs.0), r.runs.1, r.runs.2);
    }

begun_run : (t : TagLimits) (s p : Segment) (ps segs : List Segment) → may_join t s p ≡ false →
    RunsFrom t p ps segs → RunsFrom t s (p ∷ ps) (s ∷ segs)
begun_run t s p ps segs j r =
    record {
      others = [];
      later = record { first = p; others = r.others } ∷ r.later;
      pieces = ap (λ xs. p ∷ xs) r.pieces;
      segments = ap (λ xs. s ∷ xs) r.segments;
      runs = (tt, j, r.runs);
    }

cut_from_runs : (t : TagLimits) (s : Segment) (ps : List Segment) → RunsFrom t s ps (segments_from t s ps)
cut_from_runs t s [] = record { others = []; later = []; pieces = refl; segments = refl; runs = (tt, tt, tt) }
cut_from_runs t s (p ∷ ps) =
    (elim (may_join t s p) as (λ b. may_join t s p ≡ b →
    RunsFrom t s (p ∷ ps) (cond b (segments_from t (joint s p) ps) (s ∷ segments_from t p ps))) [
      | true ↦ λ j. joined_run t s p ps (segments_from t (joint s p) ps) j (cut_from_runs t (joint s p) ps)
      | false ↦ λ j. begun_run t s p ps (segments_from t p ps) j (cut_from_runs t p ps)
    ]) refl

pub cut_is : (t : TagLimits) (ps : List Segment) → IsSegmentation t (segmentation t ps) ps
cut_is t [] = record { runs = []; pieces_are = refl; segments_are = refl; joined = tt }
cut_is t (p ∷ ps) =
    let r = cut_from_runs t p ps in
    record {
      runs = record { first = p; others = r.others } ∷ r.later;
      pieces_are = ap (λ xs. p ∷ xs) r.pieces;
      segments_are = r.segments;
      joined = r.runs;
    }
