-- How many chunks, pages and pieces there are.
use Rattle.std.proofs.Common.{◌≡◌, ℕ, zero, suc, ◌+◌, ◌-◌, ◌≤◌, List, [], ◌∷◌, ◌++◌, length, take, drop, Bool, true}
use Rattle.std.proofs.Common.{false, cond, refl, ap, sym, ◌∙◌, subst, arith, length-append, length-take, length-drop}
use Rattle.std.specs.List.{AllByRecursion, sum_by}
use Rattle.std.proofs.lemmas.List.{drop-drop}
use Rattle.std.proofs.lemmas.List.Concat.{flat_map-append}
use Rattle.std.proofs.lemmas.List.Elements.{filter-append}
use Rattle.std.proofs.lemmas.List.Sums.{sum_by-cons, sum_by-append}
use Rattle.busdma_machine.specs.declared.machine.address.Pa.{Pa}
use Rattle.busdma_machine.specs.declared.machine.address.Extent.{Extent}
use Rattle.busdma_machine.specs.declared.machine.chunk.Chunk.{Chunk}
use Rattle.busdma_machine.specs.declared.machine.chunk.Entry.{Entry}
use Rattle.busdma_machine.specs.declared.tags.tag.TagLimits.{TagLimits}
use Rattle.busdma_machine.specs.Runs.{addresses, byte_count, run_of}
use Rattle.busdma_machine.specs.Machine.Entry.{entries_bytes, entry_addresses}
use Rattle.busdma_machine.specs.Tags.Tag.{IsEffective}
use Rattle.busdma_machine.specs.Tags.TagFlags.{keep_pg_offset}
use Rattle.busdma_rules.specs.Segments.Building.{IsPlaceable, placed_pieces, tag_placed}
use Rattle.busdma_rules.specs.Segments.Chunks.{bounced_of, chunk_limit, chunk_of, chunks_from, chunks_of}
use Rattle.busdma_rules.specs.Segments.Chunks.{chunks_of_bytes, chunks_within, need_of}
use Rattle.busdma_rules.specs.Segments.Pieces.{chunk_pieces, pieces_of}
use Rattle.busdma_rules.specs.Segments.Trace.{bus_addresses, chunk_len, first_page, in_page, chunks_in_pages}
use Rattle.busdma_rules.proofs.Segments.ChunkLaws.{limit_reaches}
use Rattle.busdma_rules.proofs.Segments.Places.{run_length}
use Rattle.busdma_rules.proofs.Segments.Sound.{made_len}

-- ---- need

pub need_append : (xs ys : List Chunk) → need_of (xs ++ ys) ≡ need_of xs + need_of ys
need_append xs ys =
    ap length (filter-append (λ (c : Chunk). c.bounced) xs ys) ∙ length-append (bounced_of xs) (bounced_of ys)

pub need_first : (c : Chunk) (cs : List Chunk) → need_of (c ∷ cs) ≡ cond c.bounced 1 0 + need_of cs
need_first c cs =
    elim c.bounced as (λ b. length (cond b (c ∷ bounced_of cs) (bounced_of cs)) ≡ cond b 1 0 + need_of cs)
    [ true ↦ omega arith | false ↦ omega arith ]

-- ---- chunks in their pages

pub placed_append : (keep : Bool) (xs ys : List Chunk) (pages : List Pa) →
    chunks_in_pages keep (xs ++ ys) pages ≡ chunks_in_pages keep xs pages
    ++ chunks_in_pages keep ys (drop (need_of xs) pages)
placed_append keep [] ys pages = refl
placed_append keep (c ∷ cs) ys pages =
    elim c.bounced as (λ b. cond b (in_page keep (first_page pages) c ∷ chunks_in_pages keep (cs ++ ys) (drop 1 pages))
    (c ∷ chunks_in_pages keep (cs ++ ys) pages)
    ≡ cond b (in_page keep (first_page pages) c ∷ chunks_in_pages keep cs (drop 1 pages))
    (c ∷ chunks_in_pages keep cs pages)
    ++ chunks_in_pages keep ys (drop (length (cond b (c ∷ bounced_of cs) (bounced_of cs))) pages)) [
      | true ↦ ap (λ zs. in_page keep (first_page pages) c ∷ zs) (placed_append keep cs ys (drop 1 pages)
          ∙ ap (λ ps. chunks_in_pages keep cs (drop 1 pages) ++ chunks_in_pages keep ys ps)
          (drop-drop (need_of cs) 1 pages
          ∙ ap (λ k. drop k pages) (one_more (need_of cs))))
      | false ↦ ap (λ zs. c ∷ zs) (placed_append keep cs ys pages)
    ]
  where
    one_more : (n : ℕ) → 1 + n ≡ suc n
    one_more n = omega arith

pub pieces_append : (t : TagLimits) (xs ys : List Chunk) (pages : List Pa) →
    placed_pieces t (xs ++ ys) pages ≡ placed_pieces t xs pages ++ placed_pieces t ys (drop (need_of xs) pages)
pieces_append t xs ys pages =
    ap (λ cs. chunk_pieces t cs) (placed_append (keep_pg_offset t.flags) xs ys pages)
    ∙ flat_map-append (λ c. pieces_of t (bus_addresses c)) (tag_placed t xs pages)
    (tag_placed t ys (drop (need_of xs) pages))

pub bounced_append : (t : TagLimits) (xs ys : List Chunk) (pages : List Pa) →
    bounced_of (tag_placed t (xs ++ ys) pages) ≡ bounced_of (tag_placed t xs pages)
    ++ bounced_of (tag_placed t ys (drop (need_of xs) pages))
bounced_append t xs ys pages =
    ap bounced_of (placed_append (keep_pg_offset t.flags) xs ys pages)
    ∙ filter-append (λ (c : Chunk). c.bounced) (tag_placed t xs pages) (tag_placed t ys (drop (need_of xs) pages))

-- pages do not change which chunks are bounced
pub placed_need : (keep : Bool) (cs : List Chunk) (pages : List Pa) → need_of (chunks_in_pages keep cs pages)
    ≡ need_of cs
placed_need keep [] pages = refl
placed_need keep (c ∷ cs) pages =
    (elim c.bounced as (λ b. c.bounced ≡ b →
    need_of (cond b (in_page keep (first_page pages) c ∷ chunks_in_pages keep cs (drop 1 pages))
    (c ∷ chunks_in_pages keep cs pages))
    ≡ length (cond b (c ∷ bounced_of cs) (bounced_of cs))) [
      | true ↦ λ w. need_first (in_page keep (first_page pages) c) (chunks_in_pages keep cs (drop 1 pages))
          ∙ (rw w (omega (arith, placed_need keep cs (drop 1 pages))))
      | false ↦ λ w. need_first c (chunks_in_pages keep cs pages) ∙ (rw w (omega (arith, placed_need keep cs pages)))
    ]) refl

-- ---- bytes

abbrev pub chunk_bytes : List Chunk → ℕ
chunk_bytes cs = sum_by chunk_len cs

pub within_bytes : (n : ℕ) (t : TagLimits) (m : ℕ) (r : Bool) (at : ℕ) (bs : List ℕ) → IsEffective t → length bs ≤ n →
    chunk_bytes (chunks_within n t m r at bs) ≡ length bs
within_bytes zero t m r at [] e h = refl
within_bytes zero t m r at (a ∷ bs) e h = absurd (omega arith)
within_bytes (suc n) t m r at [] e h = refl
within_bytes (suc n) t m r at (a ∷ bs) e h =
    let most = chunk_limit t m r a in
    let reaches = limit_reaches t m r a e in
    let c = chunk_of t m at (take most (a ∷ bs)) in
    let rest = chunks_within n t m r (at + most) (drop most (a ∷ bs)) in
    let is : most ≡ suc (most - 1) = omega arith in
    let one : chunk_len c ≡ length (take most (a ∷ bs)) =
    subst (λ (k : ℕ). chunk_len (chunk_of t m at (take k (a ∷ bs))) ≡ length (take k (a ∷ bs))) (sym is)
    (made_len t m at a (take (most - 1) bs)) in
    let left = length-drop most (a ∷ bs) in
    let ih = within_bytes n t m r (at + most) (drop most (a ∷ bs)) e (omega arith) in
    omega (arith, sum_by-cons chunk_len c rest, one, length-take most (a ∷ bs), ih)

pub addresses_length : (es : List Extent) → length (addresses es) ≡ byte_count es
addresses_length [] = refl
addresses_length (e ∷ es) =
    omega (
      arith,
      length-append (run_of e.pa.0 e.len) (addresses es),
      run_length e.pa.0 e.len,
      addresses_length es,
      sum_by-cons (λ (x : Extent). x.len) e es,
    )

from_bytes : (t : TagLimits) (m at : ℕ) (es : List Entry) → IsEffective t →
    chunk_bytes (chunks_from t m at es) ≡ entries_bytes es
from_bytes t m at [] e = refl
from_bytes t m at (x ∷ xs) e =
    let here = chunks_of_bytes t m x.rounded at (entry_addresses x) in
    let later = chunks_from t m (at + byte_count x.parts) xs in
    omega (
      arith,
      sum_by-append chunk_len here later,
      within_bytes (length (entry_addresses x)) t m x.rounded at (entry_addresses x) e (omega arith),
      addresses_length x.parts,
      from_bytes t m (at + byte_count x.parts) xs e,
      sum_by-cons (λ (y : Entry). byte_count y.parts) x xs,
    )

-- chunks have the bytes of their entries
pub chunks_bytes : (t : TagLimits) (m : ℕ) (es : List Entry) → IsEffective t →
    chunk_bytes (chunks_of t m es) ≡ entries_bytes es
chunks_bytes t m es e = from_bytes t m 0 es e

-- a load needs no more pages than it has bytes
pub need_small : (t : TagLimits) (cs : List Chunk) → AllByRecursion (IsPlaceable t) cs → need_of cs ≤ chunk_bytes cs
need_small t [] h = omega arith
need_small t (c ∷ cs) h =
    let some = h.0.some in
    elim c.bounced as (λ b. length (cond b (c ∷ bounced_of cs) (bounced_of cs)) ≤ chunk_bytes (c ∷ cs)) [
      | true ↦ omega (arith, need_small t cs h.1, sum_by-cons chunk_len c cs)
      | false ↦
          omega (arith, need_small t cs h.1, sum_by-cons chunk_len c cs)
    ]

-- a load has no more chunks than bytes
pub chunks_few : (t : TagLimits) (cs : List Chunk) → AllByRecursion (IsPlaceable t) cs → length cs ≤ chunk_bytes cs
chunks_few t [] h = omega arith
chunks_few t (c ∷ cs) h = let some = h.0.some in omega (arith, chunks_few t cs h.1, sum_by-cons chunk_len c cs)
