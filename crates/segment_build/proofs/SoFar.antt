-- What is built of chunks, after one more chunk.
use Rattle.std.proofs.Common.{◌≡◌, ◌<◌, ◌≤◌, List, [], ◌∷◌, ◌++◌, length, drop, Bool, true, false, refl, ap, sym, ◌∙◌}
use Rattle.std.proofs.Common.{subst, arith, length-append}
use Rattle.std.specs.Prelude.{Result, Ok, Err, OnOk, IfOk}
use Rattle.busdma_machine.specs.declared.machine.address.Pa.{Pa}
use Rattle.busdma_machine.specs.declared.machine.address.Segment.{Segment}
use Rattle.busdma_machine.specs.declared.machine.chunk.Chunk.{Chunk}
use Rattle.busdma_machine.specs.declared.tags.tag.TagLimits.{TagLimits}
use Rattle.busdma_machine.specs.Tags.TagFlags.{keep_pg_offset}
use Rattle.segment_build.specs.Building.{IsSoFar}
use Rattle.busdma_rules.specs.Segments.Building.{placed_pieces, tag_placed}
use Rattle.busdma_rules.specs.Segments.Chunks.{bounced_of, need_of}
use Rattle.segment_build.specs.Joining.{added_all}
use Rattle.busdma_rules.specs.Segments.Segmentation.{IsSegmentation, segmentation}
use Rattle.busdma_rules.proofs.Segments.Counting.{bounced_append, need_append, pieces_append, placed_need}
use Rattle.segment_build.proofs.Cuts.{added_all_longer, cut_all, cut_shorter, one_segmentation}
use Rattle.busdma_rules.proofs.Segments.Cuts.{cut_is}

-- so many chunks are in their pages
pub used_pages : (t : TagLimits) (pages : List Pa) (cs : List Chunk) (segs : List Segment) (bounced : List Chunk) →
    IsSoFar t pages cs segs bounced true → length bounced ≡ need_of cs
used_pages t pages cs segs bounced h = ap length (h.bounced_are refl) ∙ placed_need (keep_pg_offset t.flags) cs pages

-- the segments with the pieces of one more chunk
pub segments_more : (t : TagLimits) (pages : List Pa) (cs : List Chunk) (segs : List Segment) (bounced : List Chunk)
    (c : Chunk) → IsSoFar t pages cs segs bounced true →
    added_all t segs (placed_pieces t (c ∷ []) (drop (length bounced) pages))
    ≡ segmentation t (placed_pieces t (cs ++ c ∷ []) pages)
segments_more t pages cs segs bounced c h =
    let few = h.segments_are refl in
    let own = placed_pieces t (c ∷ []) (drop (need_of cs) pages) in
    ap (λ k. added_all t segs (placed_pieces t (c ∷ []) (drop k pages))) (used_pages t pages cs segs bounced h)
    ∙ (ap (λ xs. added_all t xs own) (one_segmentation t segs (placed_pieces t cs pages) few.0)
    ∙ (sym (cut_all t (placed_pieces t cs pages) own)
    ∙ ap (λ xs. segmentation t xs) (sym (pieces_append t cs (c ∷ []) pages))))

pub more_few : (t : TagLimits) (pages : List Pa) (cs : List Chunk) (segs next : List Segment)
    (bounced later : List Chunk) (c : Chunk) → IsSoFar t pages cs segs bounced true →
    next ≡ added_all t segs (placed_pieces t (c ∷ []) (drop (length bounced) pages)) → length next ≤ t.nsegments →
    later ≡ bounced ++ bounced_of (tag_placed t (c ∷ []) (drop (length bounced) pages)) →
    IsSoFar t pages (cs ++ c ∷ []) next later true
more_few t pages cs segs next bounced later c h e l f =
    record {
      segments_are =
          λ _. (
            subst (λ xs. IsSegmentation t xs (placed_pieces t (cs ++ c ∷ []) pages))
                (sym (e ∙ segments_more t pages cs segs bounced c h))
                (cut_is t (placed_pieces t (cs ++ c ∷ []) pages)),
            l,
          );
      bounced_are = λ _. f
          ∙ (ap (λ k. bounced ++ bounced_of (tag_placed t (c ∷ []) (drop k pages)))
          (used_pages t pages cs segs bounced h)
          ∙ (ap (λ xs. xs ++ bounced_of (tag_placed t (c ∷ []) (drop (need_of cs) pages))) (h.bounced_are refl)
          ∙ sym (bounced_append t cs (c ∷ []) pages)));
      too_many = λ x. absurd cc;
    }

pub more_many : (t : TagLimits) (pages : List Pa) (cs : List Chunk) (segs next : List Segment)
    (bounced later : List Chunk) (c : Chunk) → IsSoFar t pages cs segs bounced true →
    t.nsegments < length (added_all t segs (placed_pieces t (c ∷ []) (drop (length bounced) pages))) →
    IsSoFar t pages (cs ++ c ∷ []) next later false
more_many t pages cs segs next bounced later c h l =
    record {
      segments_are = λ x. absurd cc;
      bounced_are = λ x. absurd cc;
      too_many = λ _. record {
        segments = segmentation t (placed_pieces t (cs ++ c ∷ []) pages);
        are = cut_is t (placed_pieces t (cs ++ c ∷ []) pages);
        many = omega (arith, l, ap length (segments_more t pages cs segs bounced c h));
      };
    }

-- the segments of a front are no more than those of the stream
pub cut_longer : (t : TagLimits) (xs ys : List Segment) →
    length (segmentation t xs) ≤ length (segmentation t (xs ++ ys))
cut_longer t xs ys = omega (arith, ap length (cut_all t xs ys), added_all_longer t (segmentation t xs) ys)

pub still_many : (t : TagLimits) (pages : List Pa) (cs more : List Chunk) (segs next : List Segment)
    (bounced later : List Chunk) → IsSoFar t pages cs segs bounced false →
    IsSoFar t pages (cs ++ more) next later false
still_many t pages cs more segs next bounced later h =
    let many = h.too_many refl in
    let here = placed_pieces t cs pages in
    let own = placed_pieces t more (drop (need_of cs) pages) in
    record {
      segments_are = λ x. absurd cc;
      bounced_are = λ x. absurd cc;
      too_many = λ _. record {
        segments = segmentation t (placed_pieces t (cs ++ more) pages);
        are = cut_is t (placed_pieces t (cs ++ more) pages);
        many =
            omega (
              arith,
              many.many,
              ap length (one_segmentation t many.segments here many.are),
              cut_longer t here own,
              ap (λ xs. length (segmentation t xs)) (pieces_append t cs more pages),
            );
      };
    }

-- ---- room

pub segments_fit : (t : TagLimits) (pages : List Pa) (cs : List Chunk) (segs : List Segment) (bounced : List Chunk)
    (c : Chunk) → IsSoFar t pages cs segs bounced true →
    length (added_all t segs (placed_pieces t (c ∷ []) (drop (length bounced) pages)))
    ≤ length (placed_pieces t (cs ++ c ∷ []) pages)
segments_fit t pages cs segs bounced c h =
    omega (
      arith,
      ap length (segments_more t pages cs segs bounced c h),
      cut_shorter t (placed_pieces t (cs ++ c ∷ []) pages),
    )

-- a front needs no more pages, and has no more pieces
pub need_longer : (xs ys : List Chunk) → need_of xs ≤ need_of (xs ++ ys)
need_longer xs ys = omega (arith, need_append xs ys)

pub pieces_longer : (t : TagLimits) (xs ys : List Chunk) (pages : List Pa) →
    length (placed_pieces t xs pages) ≤ length (placed_pieces t (xs ++ ys) pages)
pieces_longer t xs ys pages =
    omega (
      arith,
      ap length (pieces_append t xs ys pages),
      length-append (placed_pieces t xs pages) (placed_pieces t ys (drop (need_of xs) pages)),
    )

-- ---- by what adding a chunk answers

pub added_so_far : {E : Type 0} (r : Result Bool E) (t : TagLimits) (pages : List Pa) (cs : List Chunk)
    (segs next : List Segment) (bounced later : List Chunk) (c : Chunk) → IsSoFar t pages cs segs bounced true →
    OnOk r (later ≡ bounced ++ bounced_of (tag_placed t (c ∷ []) (drop (length bounced) pages))) →
    (r ≡ Ok true → next ≡ added_all t segs (placed_pieces t (c ∷ []) (drop (length bounced) pages))) →
    (r ≡ Ok true → length next ≤ t.nsegments) →
    (r ≡ Ok false → t.nsegments < length (added_all t segs (placed_pieces t (c ∷ []) (drop (length bounced) pages)))) →
    IfOk r (IsSoFar t pages (cs ++ c ∷ []) next later)
added_so_far (Ok true) t pages cs segs next bounced later c h b added few many =
    more_few t pages cs segs next bounced later c h (added refl) (few refl) b
added_so_far (Ok false) t pages cs segs next bounced later c h b added few many =
    more_many t pages cs segs next bounced later c h (many refl)
added_so_far (Err e) t pages cs segs next bounced later c h b added few many = tt
