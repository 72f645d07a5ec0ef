-- The segments by limits that ask for no alignment are those by the tag's own.
use Rattle.std.proofs.Common.{◌≡◌, ℕ, ◌<◌, true, false, List, [], ◌∷◌, length, refl, ap, sym, ◌∙◌, subst, cond}
use Rattle.busdma_machine.specs.declared.machine.address.Segment.{Segment}
use Rattle.busdma_machine.specs.declared.machine.chunk.Entry.{Entry}
use Rattle.busdma_machine.specs.declared.tags.tag.TagLimits.{TagLimits}
use Rattle.busdma_machine.specs.Tags.TagFlags.{keep_pg_offset}
use Rattle.busdma_rules.specs.Segments.Building.{placed_pieces, tag_placed}
use Rattle.busdma_rules.specs.Segments.Built.{AreTooMany, IsFew}
use Rattle.busdma_rules.specs.Segments.Chunks.{bounced_of, chunks_of, need_of}
use Rattle.busdma_rules.specs.Segments.Segmentation.{joint, may_join, segmentation, segments_from}
use Rattle.segment_build.specs.Streams.{stream_chunks}
use Rattle.segment_build.proofs.Cuts.{one_segmentation}
use Rattle.memory_load.specs.MemoryLoad.{run_entries, run_parts, memory_pieces, run_segments, unaligned}
use Rattle.memory_load.proofs.Parts.{run_entries_are}
use Rattle.memory_load.proofs.Unbounced.{none_bounced, stay_placed, unbounced}

-- the pieces of the stream
pub pieces_are : (t : TagLimits) (first len : ℕ) →
    placed_pieces (unaligned t) (stream_chunks (unaligned t) 0 (run_parts true first len)) []
    ≡ memory_pieces t first len
pieces_are t first len =
    ap (λ (es : List Entry). placed_pieces t (chunks_of (unaligned t) 0 es) []) (run_entries_are first len)

-- it needs no page
pub needs_none : (t : TagLimits) (first len : ℕ) →
    need_of (stream_chunks (unaligned t) 0 (run_parts true first len)) ≡ 0
needs_none t first len =
    ap (λ (es : List Entry). need_of (chunks_of (unaligned t) 0 es)) (run_entries_are first len)
    ∙ ap length (none_bounced (chunks_of (unaligned t) 0 (run_entries first len))
    (unbounced t 0 (run_entries first len)))

-- no chunk of it is bounced, in whichever pages
pub bounced_none : (t : TagLimits) (first len : ℕ) →
    bounced_of (tag_placed (unaligned t) (stream_chunks (unaligned t) 0 (run_parts true first len)) []) ≡ []
bounced_none t first len =
    let cs = chunks_of (unaligned t) 0 (run_entries first len) in
    let none = unbounced t 0 (run_entries first len) in
    ap (λ (es : List Entry). bounced_of (tag_placed (unaligned t) (chunks_of (unaligned t) 0 es) []))
    (run_entries_are first len)
    ∙ ap bounced_of (stay_placed (keep_pg_offset t.flags) cs [] none) ∙ none_bounced cs none

same_from : (t : TagLimits) (s : Segment) (ps : List Segment) →
    segments_from (unaligned t) s ps ≡ segments_from t s ps
same_from t s [] = refl
same_from t s (p ∷ ps) =
    elim (may_join t s p)
    as (λ b. cond b (segments_from (unaligned t) (joint s p) ps) (s ∷ segments_from (unaligned t) p ps)
    ≡ cond b (segments_from t (joint s p) ps) (s ∷ segments_from t p ps))
    [ true ↦ same_from t (joint s p) ps | false ↦ ap (λ xs. s ∷ xs) (same_from t p ps) ]

same_segments : (t : TagLimits) (ps : List Segment) → segmentation (unaligned t) ps ≡ segmentation t ps
same_segments t [] = refl
same_segments t (p ∷ ps) = same_from t p ps

-- few segments of the stream are those of the memory's load
pub are_segments : (t : TagLimits) (first len : ℕ) (segments : List Segment) →
    IsFew (unaligned t) (placed_pieces (unaligned t) (stream_chunks (unaligned t) 0 (run_parts true first len)) [])
    segments → segments ≡ run_segments t first len
are_segments t first len segments few =
    let ps = placed_pieces (unaligned t) (stream_chunks (unaligned t) 0 (run_parts true first len)) [] in
    one_segmentation (unaligned t) segments ps few.0 ∙ same_segments t ps
    ∙ ap (segmentation t) (pieces_are t first len)

-- if the segments of the stream are too many, so are those of the memory's load
pub are_many : (t : TagLimits) (first len : ℕ) →
    AreTooMany (unaligned t) (placed_pieces (unaligned t)
    (stream_chunks (unaligned t) 0 (run_parts true first len)) []) → t.nsegments < length (run_segments t first len)
are_many t first len many =
    let ps = placed_pieces (unaligned t) (stream_chunks (unaligned t) 0 (run_parts true first len)) [] in
    subst (λ segments. t.nsegments < length segments)
    (one_segmentation (unaligned t) many.segments ps many.are ∙ same_segments t ps
    ∙ ap (segmentation t) (pieces_are t first len)) many.many
