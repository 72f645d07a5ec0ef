-- The bytes of segments are the trace of the chunks.
use Rattle.std.proofs.Common.{◌≡◌, ℕ, zero, suc, ◌+◌, ◌-◌, ◌<◌, ◌≤◌, List, [], ◌∷◌, ◌++◌, map, Bool, true, false, ◌&&◌}
use Rattle.std.proofs.Common.{eqb, refl, ap, sym, ◌∙◌, arith, append_assoc, append-nil}
use Rattle.std.specs.Prelude.{Option, Some, None, is_some}
use Rattle.std.specs.List.{AllByRecursion, flat_map}
use Rattle.std.proofs.lemmas.Bool.Decides.{nat_tests}
use Rattle.std.proofs.lemmas.List.Concat.{flat_map-append}
use Rattle.busdma_machine.specs.declared.machine.address.Pa.{Pa}
use Rattle.busdma_machine.specs.declared.machine.address.Segment.{Segment}
use Rattle.busdma_machine.specs.declared.machine.chunk.Chunk.{Chunk}
use Rattle.busdma_machine.specs.declared.tags.tag.TagLimits.{TagLimits}
use Rattle.busdma_machine.specs.Runs.{run_of}
use Rattle.busdma_rules.specs.Segments.Pieces.{chunk_pieces, piece_len, pieces_of}
use Rattle.busdma_rules.specs.Segments.Segmentation.{EachJoins, AreRuns, IsSegmentation}
use Rattle.busdma_rules.specs.Segments.Segmentation.{PieceRun, pieces_grown, joint, may_join}
use Rattle.busdma_rules.specs.Segments.Segmentation.{run_pieces, segment_bytes, segment_of}
use Rattle.busdma_rules.specs.Segments.Trace.{IsPlaced, RisesByOne, bus_addresses, bus_extent, bus_trace, chunk_len}
use Rattle.busdma_rules.proofs.Segments.ChunkLaws.{run_split}
use Rattle.busdma_rules.proofs.Segments.Places.{piece_fits, piece_some, pieces_step}

-- ---- runs of pieces

first_true : (a b c : Bool) → (a && b && c) ≡ true → a ≡ true
first_true true b c h = refl
first_true false b c h = h

number_is : (m n : ℕ) → eqb m n ≡ true → m ≡ n
number_is m n e = grind (arith, nat_tests)

-- a piece that can join others begins at their end
pub begins_at_end : (t : TagLimits) (s p : Segment) → may_join t s p ≡ true → p.addr.0 ≡ s.addr.0 + s.len
begins_at_end t s p h = number_is p.addr.0 (s.addr.0 + s.len) (first_true _ _ _ h)

grown_bytes : (t : TagLimits) (s : Segment) (ps : List Segment) → EachJoins t s ps →
    segment_bytes (pieces_grown s ps ∷ []) ≡ segment_bytes (s ∷ ps)
grown_bytes t s [] h = refl
grown_bytes t s (p ∷ ps) h =
    let e = begins_at_end t s p h.0 in
    grown_bytes t (joint s p) ps h.1
    ∙ (ap (λ xs. xs ++ segment_bytes ps) (run_split s.addr.0 s.len p.len
    ∙ ap (λ a. run_of s.addr.0 s.len ++ run_of a p.len) (sym e))
    ∙ append_assoc (run_of s.addr.0 s.len) (run_of p.addr.0 p.len) (segment_bytes ps))

runs_bytes : (t : TagLimits) (rs : List PieceRun) → AreRuns t rs →
    segment_bytes (map segment_of rs) ≡ segment_bytes (flat_map run_pieces rs)
runs_bytes t [] h = refl
runs_bytes t (r ∷ rs) h =
    ap (λ xs. xs ++ segment_bytes (map segment_of rs))
    (sym (append-nil (run_of (segment_of r).addr.0 (segment_of r).len)) ∙ grown_bytes t r.first r.others h.0)
    ∙ (ap (λ xs. segment_bytes (run_pieces r) ++ xs) (runs_bytes t rs h.2)
    ∙ sym (flat_map-append (λ (s : Segment). run_of s.addr.0 s.len) (run_pieces r) (flat_map run_pieces rs)))

-- segments have the bytes of their pieces
pub segmentation_bytes : (t : TagLimits) (segs ps : List Segment) →
    IsSegmentation t segs ps → segment_bytes segs ≡ segment_bytes ps
segmentation_bytes t segs ps h =
    ap segment_bytes (sym h.segments_are) ∙ (runs_bytes t h.runs h.joined ∙ ap segment_bytes h.pieces_are)

-- ---- pieces of chunks

run_bytes : (n : ℕ) (t : TagLimits) (a left : ℕ) → 0 < t.maxsegsz → left ≤ n →
    segment_bytes (pieces_of t (run_of a left)) ≡ run_of a left
run_bytes n t a zero m h = refl
run_bytes zero t a (suc l) m h = absurd (omega arith)
run_bytes (suc n) t a (suc l) m h =
    let k = piece_len t a (suc l) in
    let some = piece_some t a (suc l) m (omega arith) in
    let fits = piece_fits t a (suc l) in
    let whole : k + (suc l - k) ≡ suc l = omega arith in
    ap segment_bytes (pieces_step t a (suc l) k m (omega arith) refl)
    ∙ (ap (λ xs. run_of a k ++ xs) (run_bytes n t (a + k) (suc l - k) m (omega arith))
    ∙ (sym (run_split a k (suc l - k)) ∙ ap (λ n. run_of a n) whole))

-- a chunk in its place lies on the bus in one run
pub bus_is_run : (c : Chunk) → IsPlaced c → bus_addresses c ≡ run_of (bus_extent c).pa.0 (chunk_len c)
bus_is_run c h =
    (elim c.page as (λ (o : Option Pa). c.page ≡ o → bus_addresses c ≡ run_of (bus_extent c).pa.0 (chunk_len c)) [
      | None ↦ λ e. (
          let single = h.single (sym (h.paged) ∙ ap is_some e) in
          rw (e, single, append-nil (run_of c.first.pa.0 c.first.len)) (ap (λ n. run_of c.first.pa.0 n) (omega arith)))
      | Some p ↦ λ e. rw e refl
    ]) refl

pub all_rise : (cs : List Chunk) → AllByRecursion IsPlaced cs → AllByRecursion RisesByOne cs
all_rise [] h = tt
all_rise (c ∷ cs) h = (((bus_extent c).pa.0, bus_is_run c h.0), all_rise cs h.1)

-- the pieces of chunks have the bytes of their trace
pub pieces_bytes : (t : TagLimits) (cs : List Chunk) → 0 < t.maxsegsz → AllByRecursion RisesByOne cs →
    segment_bytes (chunk_pieces t cs) ≡ bus_trace cs
pieces_bytes t [] m h = refl
pieces_bytes t (c ∷ cs) m h =
    let run = h.0.1 in
    flat_map-append (λ (s : Segment). run_of s.addr.0 s.len) (pieces_of t (bus_addresses c)) (chunk_pieces t cs)
    ∙ (ap (λ xs. segment_bytes (pieces_of t xs) ++ segment_bytes (chunk_pieces t cs)) run
    ∙ (ap (λ xs. xs ++ segment_bytes (chunk_pieces t cs))
    (run_bytes (chunk_len c) t h.0.0 (chunk_len c) m (omega arith) ∙ sym run)
    ∙ ap (λ xs. bus_addresses c ++ xs) (pieces_bytes t cs m h.1)))
