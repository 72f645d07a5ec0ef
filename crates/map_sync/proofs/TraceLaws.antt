-- Ranges of a trace, and of the chunks that it has.
use Rattle.std.proofs.Common.{◌≡◌, ℕ, ◌+◌, ◌-◌, ◌≤◌, true, false, List, [], ◌∷◌, ◌++◌, length, map, take, drop, refl}
use Rattle.std.proofs.Common.{ap, sym, ◌∙◌, subst, arith, length-take, length-drop}
use Rattle.std.specs.List.{AllByRecursion, filter}
use Rattle.std.proofs.lemmas.List.{drop-drop, take-append-drop}
use Rattle.std.proofs.lemmas.List.Concat.{flat_map-cons}
use Rattle.std.proofs.lemmas.List.Elements.{filter-append}
use Rattle.busdma_machine.specs.declared.machine.chunk.Chunk.{Chunk}
use Rattle.busdma_machine.specs.Machine.Wire.{Placed, Wire, buffers, buses, is_bounced, put, stretch}
use Rattle.phys_memory.proofs.RunParts.{all_drop, all_take}
use Rattle.busdma_rules.specs.Segments.Trace.{chunk_len}
use Rattle.map_sync.specs.Copying.{part}
use Rattle.map_sync.specs.Ranges.{chunk_range, range_of_chunks}
use Rattle.busdma_rules.specs.Syncs.Positions.{positions_of}
use Rattle.map_sync.specs.Traces.{CopiesAlike}
use Rattle.busdma_rules.specs.Syncs.ChunkTraces.{HasChunk, HasChunks}
use Rattle.map_sync.proofs.Parts.{part_append}
use Rattle.map_sync.proofs.Placing.{filter_none}

-- positions in three lists, the first two of known length
part_three : (from to g n : ℕ) (xs ys zs : List Placed) → length xs ≡ g → length ys ≡ n
    → part from to (xs ++ (ys ++ zs)) ≡ part from to xs
    ++ (part (from - g) (to - g) ys ++ part (from - g - n) (to - g - n) zs)
part_three from to g n xs ys zs e h =
    part_append from to xs (ys ++ zs) ∙ ap (λ k. part from to xs ++ part (from - k) (to - k) (ys ++ zs)) e
    ∙ ap (λ ps. part from to xs ++ ps) (part_append (from - g) (to - g) ys zs
    ∙ ap (λ k. part (from - g) (to - g) ys ++ part (from - g - k) (to - g - k) zs) h)

-- nothing is bounced in a part of positions that are not bounced
none_in_part : (from to : ℕ) (ps : List Placed) → AllByRecursion (λ p. is_bounced p ≡ false) ps →
    filter is_bounced (part from to ps) ≡ []
none_in_part from to ps h =
    filter_none (part from to ps) (all_take _ (to - from) (drop from ps) (all_drop _ from ps h))

-- one chunk, and those after it
one_more : (place off len : ℕ) (ps : List Placed) (c : Chunk) (cs : List Chunk) → HasChunk place ps c
    → (let end = c.at + chunk_len c in
    filter is_bounced (part (off - end) (off + len - end) (drop (end - place) ps))
    ≡ filter is_bounced (range_of_chunks off len cs))
    → filter is_bounced (part (off - place) (off + len - place) ps)
    ≡ filter is_bounced (range_of_chunks off len (c ∷ cs))
one_more place off len ps c cs has rest =
    let g = c.at - place in
    let n = chunk_len c in
    let from = off - place in
    let to = off + len - place in
    let later = drop (c.at + n - place) ps in
    let front : length (take g ps) ≡ g = omega (arith, length-take g ps, has.behind, has.inside) in
    let size : length (take n (drop g ps)) ≡ n =
    omega (arith, length-take n (drop g ps), length-drop g ps, has.behind, has.inside) in
    let behind : drop n (drop g ps) ≡ later =
    drop-drop n g ps ∙ (let e : g + n ≡ c.at + n - place = omega (arith, has.behind) in ap (λ k. drop k ps) e) in
    let whole : ps ≡ take g ps ++ (positions_of c ++ later) =
    sym (take-append-drop g ps) ∙ ap (λ xs. take g ps ++ xs) (sym (take-append-drop n (drop g ps)))
    ∙ ap (λ xs. take g ps ++ (take n (drop g ps) ++ xs)) behind ∙ ap (λ xs. take g ps ++ (xs ++ later)) has.here in
    let mid : length (positions_of c) ≡ n = sym (ap length has.here) ∙ size in
    let begin : from - g ≡ off - c.at = omega (arith, has.behind) in
    let end : to - g ≡ off + len - c.at = omega (arith, has.behind) in
    let begin_later : from - g - n ≡ off - (c.at + n) = omega (arith, has.behind) in
    let end_later : to - g - n ≡ off + len - (c.at + n) = omega (arith, has.behind) in
    ap (filter is_bounced)
    (ap (part from to) whole ∙ part_three from to g n (take g ps) (positions_of c) later front mid)
    ∙ filter-append is_bounced (part from to (take g ps)) (part (from - g) (to - g) (positions_of c)
    ++ part (from - g - n) (to - g - n) later)
    ∙ ap (λ xs. xs ++ filter is_bounced (part (from - g) (to - g) (positions_of c)
    ++ part (from - g - n) (to - g - n) later)) (none_in_part from to (take g ps) has.before)
    ∙ filter-append is_bounced (part (from - g) (to - g) (positions_of c)) (part (from - g - n) (to - g - n) later)
    ∙ ap (λ k. filter is_bounced (part k (to - g) (positions_of c))
    ++ filter is_bounced (part (from - g - n) (to - g - n) later)) begin
    ∙ ap (λ k. filter is_bounced (part (off - c.at) k (positions_of c))
    ++ filter is_bounced (part (from - g - n) (to - g - n) later)) end
    ∙ ap (λ k. filter is_bounced (chunk_range off len c) ++ filter is_bounced (part k (to - g - n) later)) begin_later
    ∙ ap (λ k. filter is_bounced (chunk_range off len c)
    ++ filter is_bounced (part (off - (c.at + n)) k later)) end_later
    ∙ ap (λ xs. filter is_bounced (chunk_range off len c) ++ xs) rest
    ∙ sym (ap (filter is_bounced) (flat_map-cons (chunk_range off len) c cs)
    ∙ filter-append is_bounced (chunk_range off len c) (range_of_chunks off len cs))

-- the bounced positions of a range
bounced_alike : (cs : List Chunk) (place off len : ℕ) (ps : List Placed) → HasChunks place ps cs →
    filter is_bounced (part (off - place) (off + len - place) ps) ≡ filter is_bounced (range_of_chunks off len cs)
bounced_alike [] place off len ps h = none_in_part (off - place) (off + len - place) ps h
bounced_alike (c ∷ cs) place off len ps h =
    one_more place off len ps c cs h.0 (bounced_alike cs (c.at + chunk_len c) off len
    (drop (c.at + chunk_len c - place) ps) h.1)

pub ranges_alike : (off len : ℕ) (chunks : List Chunk) (trace : List Placed) → HasChunks 0 trace chunks →
    (w : Wire) → CopiesAlike off len chunks trace w
ranges_alike off len chunks trace h w =
    let begin : off - 0 ≡ off = omega arith in
    let count : off + len - 0 - (off - 0) ≡ len = omega arith in
    let same : filter is_bounced (stretch off len trace) ≡ filter is_bounced (range_of_chunks off len chunks) =
    sym (ap (λ k. filter is_bounced (take k (drop (off - 0) trace))) count
    ∙ ap (λ k. filter is_bounced (take len (drop k trace))) begin)
    ∙ bounced_alike chunks 0 off len trace h in
    record {
      in_alike = ap (λ ps. put (buses ps) (map w (buffers ps)) w) same;
      out_alike = ap (λ ps. put (buffers ps) (map w (buses ps)) w) same;
    }
