-- The one segmentation of pieces.
use Rattle.std.proofs.Common.{◌≡◌, ℕ, ◌+◌, ◌≤◌, List, [], ◌∷◌, ◌++◌, length, map, true, false, cond, refl, ap, sym, ◌∙◌}
use Rattle.std.proofs.Common.{append-nil, append_assoc, arith, subst, ◌<◌, drop, get_or}
use Rattle.std.proofs.lemmas.List.{drop_all, drop_more}
use Rattle.std.specs.List.{flat_map}
use Rattle.busdma_machine.specs.declared.machine.address.Segment.{Segment}
use Rattle.busdma_machine.specs.declared.tags.tag.TagLimits.{TagLimits}
use Rattle.busdma_rules.specs.Segments.Segmentation.{PieceRun, segments_from, segmentation}
use Rattle.busdma_rules.specs.Segments.Segmentation.{joint, may_join, pieces_grown}
use Rattle.busdma_rules.specs.Segments.Segmentation.{segment_of, run_pieces, EachJoins, AreRuns, IsSegmentation}
use Rattle.busdma_rules.specs.Segments.Built.{IsFew, AreTooMany}
use Rattle.segment_build.specs.Joining.{extent_added, added_all}
use Rattle.busdma_rules.proofs.Segments.Cuts.{cut_is}

-- ---- one more piece

added_under : (t : TagLimits) (q s : Segment) (ps : List Segment) (p : Segment) →
    extent_added t (q ∷ segments_from t s ps) p ≡ q ∷ extent_added t (segments_from t s ps) p
added_under t q s [] p = refl
added_under t q s (r ∷ rs) p =
    elim (may_join t s r) as (λ b. extent_added t
    (q ∷ cond b (segments_from t (joint s r) rs) (s ∷ segments_from t r rs)) p
    ≡ q ∷ extent_added t (cond b (segments_from t (joint s r) rs) (s ∷ segments_from t r rs)) p)
    [ true ↦ added_under t q (joint s r) rs p | false ↦ refl ]

cut_from_last : (t : TagLimits) (s : Segment) (ps : List Segment) (p : Segment) →
    segments_from t s (ps ++ p ∷ []) ≡ extent_added t (segments_from t s ps) p
cut_from_last t s [] p = refl
cut_from_last t s (r ∷ rs) p =
    elim (may_join t s r) as (λ b. cond b (segments_from t (joint s r) (rs ++ p ∷ []))
    (s ∷ segments_from t r (rs ++ p ∷ []))
    ≡ extent_added t (cond b (segments_from t (joint s r) rs) (s ∷ segments_from t r rs)) p) [
      | true ↦ cut_from_last t (joint s r) rs p
      | false ↦
          ap (λ xs. s ∷ xs) (cut_from_last t r rs p) ∙ sym (added_under t s r rs p)
    ]

pub cut_last : (t : TagLimits) (ps : List Segment) (p : Segment) →
    segmentation t (ps ++ p ∷ []) ≡ extent_added t (segmentation t ps) p
cut_last t [] p = refl
cut_last t (q ∷ qs) p = cut_from_last t q qs p

pub cut_all : (t : TagLimits) (xs ys : List Segment) → segmentation t (xs ++ ys) ≡ added_all t (segmentation t xs) ys
cut_all t xs [] = ap (λ ps. segmentation t ps) (append-nil xs)
cut_all t xs (y ∷ ys) =
    ap (λ ps. segmentation t ps) (sym (append_assoc xs (y ∷ []) ys))
    ∙ (cut_all t (xs ++ y ∷ []) ys ∙ ap (λ segs. added_all t segs ys) (cut_last t xs y))

-- ---- the segmentation is the only one

cut_run : (t : TagLimits) (s : Segment) (others ps : List Segment) → EachJoins t s others →
    segments_from t s (others ++ ps) ≡ segments_from t (pieces_grown s others) ps
cut_run t s [] ps h = refl
cut_run t s (p ∷ others) ps h = rw h.0 (cut_run t (joint s p) others ps h.1)

cut_runs : (t : TagLimits) (rs : List PieceRun) → AreRuns t rs → map segment_of rs
    ≡ segmentation t (flat_map run_pieces rs)
cut_runs t [] h = refl
cut_runs t (r ∷ []) h = sym (cut_run t r.first r.others [] h.0)
cut_runs t (r ∷ q ∷ qs) h =
    ap (λ xs. segment_of r ∷ xs) (cut_runs t (q ∷ qs) h.2)
    ∙ sym (cut_run t r.first r.others (flat_map run_pieces (q ∷ qs)) h.0 ∙ rw h.1 refl)

pub one_segmentation : (t : TagLimits) (segs ps : List Segment) → IsSegmentation t segs ps → segs ≡ segmentation t ps
one_segmentation t segs ps h =
    sym h.segments_are ∙ (cut_runs t h.runs h.joined ∙ ap (λ xs. segmentation t xs) h.pieces_are)

-- ---- how many segments there are

-- one more piece gives no fewer segments
pub added_longer : (t : TagLimits) (segs : List Segment) (p : Segment) → length segs ≤ length (extent_added t segs p)
added_longer t [] p = omega arith
added_longer t (s ∷ []) p =
    elim (may_join t s p) as (λ b. 1 ≤ length (cond b (joint s p ∷ []) (s ∷ p ∷ [])))
    [ true ↦ omega arith | false ↦ omega arith ]
added_longer t (s ∷ r ∷ rs) p = omega (arith, added_longer t (r ∷ rs) p)

pub added_all_longer : (t : TagLimits) (segs ps : List Segment) → length segs ≤ length (added_all t segs ps)
added_all_longer t segs [] = omega arith
added_all_longer t segs (p ∷ ps) = omega (arith, added_longer t segs p, added_all_longer t (extent_added t segs p) ps)

cut_from_shorter : (t : TagLimits) (s : Segment) (ps : List Segment) → length (segments_from t s ps) ≤ length ps + 1
cut_from_shorter t s [] = omega arith
cut_from_shorter t s (p ∷ ps) =
    elim (may_join t s p) as (λ b. length (cond b (segments_from t (joint s p) ps) (s ∷ segments_from t p ps))
    ≤ length (p ∷ ps) + 1)
    [ true ↦ omega (arith, cut_from_shorter t (joint s p) ps) | false ↦ omega (arith, cut_from_shorter t p ps) ]

-- there are no more segments than pieces
pub cut_shorter : (t : TagLimits) (ps : List Segment) → length (segmentation t ps) ≤ length ps
cut_shorter t [] = omega arith
cut_shorter t (p ∷ ps) = omega (arith, cut_from_shorter t p ps)

-- ---- what is built if the pieces after the first i are still to come

pub are_few : (t : TagLimits) (segs ps : List Segment) (i : ℕ) → length ps ≤ i →
    added_all t segs (drop i ps) ≡ added_all t [] ps → length segs ≤ t.nsegments → IsFew t ps segs
are_few t segs ps i h is few = (
  subst (λ xs. IsSegmentation t xs ps) (cut_all t [] ps
      ∙ (sym is ∙ ap (λ xs. added_all t segs xs) (drop_all i ps h))) (cut_is t ps),
  few,
)

pub are_many : (t : TagLimits) (segs ps : List Segment) (i : ℕ) (d : Segment) → i < length ps →
    added_all t segs (drop i ps) ≡ added_all t [] ps →
    t.nsegments < length (extent_added t segs (get_or ps i d)) → AreTooMany t ps
are_many t segs ps i d h is many =
    let all = cut_all t [] ps ∙ (sym is ∙ ap (λ xs. added_all t segs xs) (drop_more ps i d h)) in
    record {
      segments = segmentation t ps;
      are = cut_is t ps;
      many =
          omega (
            arith,
            many,
            ap length all,
            added_all_longer t (extent_added t segs (get_or ps i d))
                (drop (i + 1) ps),
          );
    }
