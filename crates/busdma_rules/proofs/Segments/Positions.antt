-- The address in the trace at which a chunk or a segment begins.
use Rattle.std.proofs.Common.{◌≡◌, ℕ, zero, suc, ◌+◌, ◌<◌, ◌≤◌, List, [], ◌∷◌, ◌++◌, length, take, drop, get_or, Bool}
use Rattle.std.proofs.Common.{true, false, cond, refl, ap, sym, ◌∙◌, subst, arith, append_assoc, append-nil}
use Rattle.std.specs.List.{AllByRecursion}
use Rattle.std.proofs.lemmas.List.{get_or-append-add}
use Rattle.std.proofs.lemmas.List.Sums.{sum_by-cons, sum_by-append}
use Rattle.busdma_machine.specs.declared.machine.address.Pa.{Pa}
use Rattle.busdma_machine.specs.declared.machine.address.Segment.{Segment}
use Rattle.busdma_machine.specs.declared.machine.chunk.Chunk.{Chunk}
use Rattle.busdma_machine.specs.Each.{EachAfter}
use Rattle.busdma_machine.specs.Runs.{run_of}
use Rattle.busdma_rules.specs.Segments.Obeying.{segments_bytes}
use Rattle.busdma_rules.specs.Segments.Segmentation.{segment_bytes}
use Rattle.busdma_rules.specs.Segments.Trace.{IsPlaced, bus_addresses, bus_extent, bus_trace, chunk_len, first_page}
use Rattle.busdma_rules.specs.Segments.Trace.{in_page, chunks_in_pages}
use Rattle.busdma_rules.proofs.Segments.Bytes.{bus_is_run}
use Rattle.busdma_rules.proofs.Segments.Counting.{chunk_bytes}
use Rattle.busdma_rules.proofs.Segments.Places.{run_length}

-- ---- elements after others

pub each_from : {X : Type 0} (P : List X → X → Type 0) (before rest : List X) →
    ((xs : List X) (y : X) (zs : List X) → rest ≡ xs ++ y ∷ zs → P (before ++ xs) y) → EachAfter P before rest
each_from P before [] h = tt
each_from P before (x ∷ rest) h = (
  subst (λ bs. P bs x) (append-nil before) (h [] x rest refl),
  each_from P (before ++ x ∷ []) rest (λ xs y zs e. subst (λ bs. P bs y) (sym (append_assoc before (x ∷ []) xs))
      (h (x ∷ xs) y zs (ap (λ ys. x ∷ ys) e))),
)

pub each_at : {X : Type 0} (P : List X → X → Type 0) (before xs : List X) (k : ℕ) (d : X) → EachAfter P before xs →
    k < length xs → P (before ++ take k xs) (get_or xs k d)
each_at P before [] k d h l = absurd (omega arith)
each_at P before (x ∷ xs) zero d h l = subst (λ bs. P bs x) (sym (append-nil before)) h.0
each_at P before (x ∷ xs) (suc k) d h l =
    subst (λ bs. P bs (get_or xs k d)) (append_assoc before (x ∷ []) (take k xs))
    (each_at P (before ++ x ∷ []) xs k d h.1 (omega arith))

pub all_middle : {X : Type 0} (P : X → Type 0) (xs : List X) (y : X) (zs : List X) → AllByRecursion P (xs ++ y ∷ zs) →
    P y
all_middle P [] y zs h = h.0
all_middle P (x ∷ xs) y zs h = all_middle P xs y zs h.1

pub all_at : {X : Type 0} (P : X → Type 0) (xs : List X) (k : ℕ) (d : X) →
    AllByRecursion P xs → k < length xs → P (get_or xs k d)
all_at P [] k d h l = absurd (omega arith)
all_at P (x ∷ xs) zero d h l = h.0
all_at P (x ∷ xs) (suc k) d h l = all_at P xs k d h.1 (omega arith)

-- ---- chunks keep their places in pages

pub placed_at : (keep : Bool) (cs : List Chunk) (pages : List Pa) (before other : List Chunk) →
    chunk_bytes other ≡ chunk_bytes before → EachAfter (λ b c. c.at ≡ chunk_bytes b) before cs →
    EachAfter (λ b c. c.at ≡ chunk_bytes b) other (chunks_in_pages keep cs pages)
placed_at keep [] pages before other e h = tt
placed_at keep (c ∷ cs) pages before other e h =
    let one = sum_by-append chunk_len before (c ∷ []) in
    (elim c.bounced as (λ b. EachAfter (λ b c. c.at ≡ chunk_bytes b) other
    (cond b (in_page keep (first_page pages) c ∷ chunks_in_pages keep cs (drop 1 pages))
    (c ∷ chunks_in_pages keep cs pages))) [
      | true ↦ (
        h.0 ∙ sym e,
        placed_at keep cs (drop 1 pages) (before ++ c ∷ []) (other
            ++ in_page keep (first_page pages) c ∷ [])
            (omega (
              arith,
              one,
              sum_by-append chunk_len other (in_page keep (first_page pages) c ∷ []),
              e,
              sum_by-cons chunk_len c [],
              sum_by-cons chunk_len (in_page keep (first_page pages) c) [],
            )) h.1,
      )
      | false ↦ (
        h.0 ∙ sym e,
        placed_at keep cs pages (before ++ c ∷ []) (other ++ c ∷ [])
            (omega (arith, one, sum_by-append chunk_len other (c ∷ []), e)) h.1,
      )
    ])

-- ---- the trace at a chunk, and at a segment

run_first : (a n : ℕ) (ys : List ℕ) → 0 < n → get_or (run_of a n ++ ys) 0 0 ≡ a
run_first a zero ys h = absurd (omega arith)
run_first a (suc n) ys h = refl

pub chunk_at : (cs : List Chunk) (k : ℕ) (d : Chunk) → AllByRecursion IsPlaced cs → k < length cs →
    get_or (bus_trace cs) (chunk_bytes (take k cs)) 0 ≡ (bus_extent (get_or cs k d)).pa.0
chunk_at [] k d h l = absurd (omega arith)
chunk_at (c ∷ cs) zero d h l =
    let some = h.0.inside.some in
    ap (λ bs. get_or (bs ++ bus_trace cs) 0 0) (bus_is_run c h.0)
    ∙ run_first (bus_extent c).pa.0 (chunk_len c) (bus_trace cs) some
chunk_at (c ∷ cs) (suc k) d h l =
    let len : length (bus_addresses c) ≡ chunk_len c =
    ap length (bus_is_run c h.0) ∙ run_length (bus_extent c).pa.0 (chunk_len c) in
    let place : chunk_bytes (c ∷ take k cs) ≡ length (bus_addresses c) + chunk_bytes (take k cs) =
    omega (arith, sum_by-cons chunk_len c (take k cs), len) in
    ap (λ n. get_or (bus_addresses c ++ bus_trace cs) n 0) place
    ∙ (get_or-append-add (bus_addresses c) (bus_trace cs) (chunk_bytes (take k cs)) 0
    ∙ chunk_at cs k d h.1 (omega arith))

pub segment_at : (before : List Segment) (s : Segment) (later : List Segment) → 1 ≤ s.len →
    get_or (segment_bytes (before ++ s ∷ later)) (segments_bytes before) 0 ≡ s.addr.0
segment_at [] s later h = run_first s.addr.0 s.len (segment_bytes later) h
segment_at (b ∷ bs) s later h =
    let place : segments_bytes (b ∷ bs) ≡ length (run_of b.addr.0 b.len) + segments_bytes bs =
    omega (arith, sum_by-cons (λ (x : Segment). x.len) b bs, run_length b.addr.0 b.len) in
    ap (λ n. get_or (run_of b.addr.0 b.len ++ segment_bytes (bs ++ s ∷ later)) n 0) place
    ∙ (get_or-append-add (run_of b.addr.0 b.len) (segment_bytes (bs ++ s ∷ later)) (segments_bytes bs) 0
    ∙ segment_at bs s later h)
