-- What a build requires of a stream holds of each front of a stream of which it holds.
use Rattle.std.proofs.Common.{◌≡◌, ◌^◌, ℕ, ◌+◌, ◌≤◌, min, List, [], ◌∷◌, ◌++◌, length, drop, Bool, true, false, cond}
use Rattle.std.proofs.Common.{refl, ap, sym, ◌∙◌, subst, arith, append_assoc, append-nil, length-append, ◌⊎◌, inl, inr}
use Rattle.std.specs.Prelude.{Option, Some, None, IfSome}
use Rattle.std.specs.Option.{option_to_list}
use Rattle.std.specs.List.{AllByRecursion}
use Rattle.std.proofs.lemmas.List.Sums.{sum_by-append}
use Rattle.busdma_machine.specs.declared.machine.address.Extent.{Extent}
use Rattle.busdma_machine.specs.declared.machine.address.Pa.{Pa}
use Rattle.busdma_machine.specs.declared.machine.chunk.Chunk.{Chunk}
use Rattle.busdma_machine.specs.declared.machine.chunk.Entry.{Entry}
use Rattle.busdma_machine.specs.declared.machine.chunk.Part.{Part}
use Rattle.busdma_machine.specs.declared.machine.chunk.Part.TheVariants.{Of, Unmapped}
use Rattle.busdma_machine.specs.declared.tags.tag.TagLimits.{TagLimits}
use Rattle.busdma_machine.specs.Machine.Entry.{AreJoined, IsEntry, IsStream}
use Rattle.busdma_machine.specs.Machine.Entry.{entries_bytes, stream_entries, others_of}
use Rattle.busdma_machine.specs.Machine.Entry.{part_bytes, parts_of}
use Rattle.busdma_machine.specs.Runs.{IsExtent, addresses, byte_count, run_of}
use Rattle.busdma_machine.specs.Tags.Tag.{IsEffective}
use Rattle.busdma_machine.specs.Tags.TagFlags.{keep_pg_offset}
use Rattle.busdma_rules.specs.Segments.Building.{IsPlaceable, placed_pieces}
use Rattle.busdma_rules.specs.Segments.Chunks.{chunks_from, chunks_of, chunks_of_bytes, need_of}
use Rattle.segment_build.specs.Conditions.{HasRooms}
use Rattle.busdma_rules.specs.Segments.Pieces.{chunk_pieces, pieces_of}
use Rattle.segment_build.specs.Streams.{FrontsAskNoMore, stream_chunks}
use Rattle.busdma_rules.specs.Segments.Trace.{bus_addresses, chunk_len, first_page}
use Rattle.busdma_rules.specs.Segments.Trace.{in_page, page_offset, chunks_in_pages}
use Rattle.segment_build.proofs.Chunking.{chunks_of_parts, stream_of_entries}
use Rattle.busdma_rules.proofs.Segments.Counting.{need_append, need_first, pieces_append}
use Rattle.busdma_rules.proofs.Segments.OneWindow.{all_first, all_second}
use Rattle.segment_build.proofs.LongerRuns.{BeginsLonger, IsFront, IsLonger, behind, extended, no_front, run_longer}
use Rattle.segment_build.proofs.LongerRuns.{within_front}
use Rattle.busdma_rules.proofs.Segments.Sound.{chunks_sound}
use Rattle.segment_build.proofs.PartByPart.{bytes_split}
use Rattle.busdma_rules.proofs.Segments.PartByPart.{own_run}

-- ---- fronts of streams

others_front : (xs ys : List Part) → (rest : List Extent) × (others_of (xs ++ ys) ≡ others_of xs ++ rest)
others_front [] ys = (others_of ys, refl)
others_front (Of e true r ∷ xs) ys = ([], refl)
others_front (Of e false r ∷ xs) ys = let f = others_front xs ys in (f.0, ap (λ es. e ∷ es) f.1)
others_front (Unmapped n ∷ xs) ys = others_front xs ys

joined_front : (es rest : List Extent) → AreJoined (es ++ rest) → AreJoined es
joined_front [] rest h = tt
joined_front (e ∷ []) rest h = tt
joined_front (e ∷ f ∷ es) rest h = (h.0, h.1, joined_front (f ∷ es) rest h.2)

no_extents : (es rest : List Extent) → es ++ rest ≡ [] → es ≡ []
no_extents [] rest h = refl
no_extents (e ∷ es) rest h = absurd cc

entries_front : (xs ys : List Part) → AllByRecursion IsEntry (stream_entries (xs ++ ys)) →
    AllByRecursion IsEntry (stream_entries xs)
entries_front [] ys h = tt
entries_front (Of e true r ∷ xs) ys h =
    let f = others_front xs ys in
    let extents = subst (λ es. AllByRecursion IsExtent (e ∷ es)) f.1 h.0.extents in
    let joined = subst (λ es. AreJoined (e ∷ es)) f.1 h.0.joined in (
      record {
        extents = all_first IsExtent (e ∷ others_of xs) f.0 extents;
        joined = joined_front (e ∷ others_of xs) f.0 joined;
      },
      entries_front xs ys h.1,
    )
entries_front (Of e false r ∷ xs) ys h = entries_front xs ys h
entries_front (Unmapped n ∷ xs) ys h = entries_front xs ys h

-- a front of a stream is a stream
pub IsStream-front : (xs ys : List Part) → IsStream (xs ++ ys) → IsStream xs
IsStream-front xs ys h =
    let f = others_front xs ys in
    let opens = no_extents (others_of xs) f.0 (sym f.1 ∙ h.opens) in
    let small = h.bytes in
    record {
      opens = opens;
      entries = entries_front xs ys h.entries;
      bytes =
          omega (
            arith,
            bytes_split xs,
            bytes_split (xs ++ ys),
            ap byte_count opens,
            ap byte_count h.opens,
            sum_by-append part_bytes xs ys,
            small,
          );
    }

-- ---- fronts of chunks

others_stay : (xs ys : List Part) → (stream_entries xs ≡ []) ⊎ (others_of (xs ++ ys) ≡ others_of xs)
others_stay [] ys = inl refl
others_stay (Of e true r ∷ xs) ys = inr refl
others_stay (Of e false r ∷ xs) ys = elim (others_stay xs ys) [ inl h ↦ inl h | inr h ↦ inr (ap (λ es. e ∷ es) h) ]
others_stay (Unmapped n ∷ xs) ys = others_stay xs ys

addresses_append : (es fs : List Extent) → addresses (es ++ fs) ≡ addresses es ++ addresses fs
addresses_append [] fs = refl
addresses_append (e ∷ es) fs = ap (λ xs. run_of e.pa.0 e.len ++ xs) (addresses_append es fs)
    ∙ sym (append_assoc (run_of e.pa.0 e.len) (addresses es) (addresses fs))

bytes_front : (t : TagLimits) (m : ℕ) (r : Bool) (at : ℕ) (es rest : List Extent) → IsEffective t →
    IsFront (chunks_of_bytes t m r at (addresses es)) (chunks_of_bytes t m r at (addresses (es ++ rest)))
bytes_front t m r at es rest eff =
    let bs = addresses es in
    let more = addresses rest in
    subst (λ (xs : List ℕ). IsFront (chunks_of_bytes t m r at bs) (chunks_of_bytes t m r at xs))
    (sym (addresses_append es rest))
    (within_front (length bs) (length (bs ++ more)) t m r at bs more eff (omega arith)
    (omega (arith, length-append bs more)))

-- the last entry of a front, and the same entry of the stream
last_front : (t : TagLimits) (m at : ℕ) (r : Bool) (e : Extent) (xs ys : List Part) (later : List Chunk) →
    IsEffective t → stream_entries xs ≡ [] →
    IsFront (chunks_from t m at (record { rounded = r; parts = e ∷ others_of xs } ∷ stream_entries xs))
    (chunks_of_bytes t m r at (addresses (e ∷ others_of (xs ++ ys))) ++ later)
last_front t m at r e xs ys later eff none =
    let f = others_front xs ys in
    let own = e ∷ others_of xs in
    let here = chunks_of_bytes t m r at (addresses own) in
    let only : chunks_from t m at (record { rounded = r; parts = own } ∷ stream_entries xs) ≡ here =
    ap (λ es. here ++ chunks_from t m (at + byte_count own) es) none ∙ append-nil here in
    subst (λ (cs : List Chunk). IsFront cs (chunks_of_bytes t m r at (addresses (e ∷ others_of (xs ++ ys))) ++ later))
    (sym only)
    (extended here (chunks_of_bytes t m r at (addresses (e ∷ others_of (xs ++ ys)))) later
    (subst (λ (es : List Extent). IsFront here (chunks_of_bytes t m r at (addresses (e ∷ es)))) (sym f.1)
    (bytes_front t m r at own f.0 eff)))

chunks_front : (t : TagLimits) (m at : ℕ) (xs ys : List Part) → IsEffective t →
    IsFront (chunks_from t m at (stream_entries xs)) (chunks_from t m at (stream_entries (xs ++ ys)))
chunks_front t m at [] ys eff = no_front (chunks_from t m at (stream_entries ys))
chunks_front t m at (Of e true r ∷ xs) ys eff =
    elim (others_stay xs ys) [
      | inl none ↦ last_front t m at r e xs ys
          (chunks_from t m (at + byte_count (e ∷ others_of (xs ++ ys))) (stream_entries (xs ++ ys))) eff none
      | inr same ↦
          subst (λ (es : List Extent). IsFront
          (chunks_from t m at (record { rounded = r; parts = e ∷ others_of xs } ∷ stream_entries xs))
          (chunks_from t m at (record { rounded = r; parts = e ∷ es } ∷ stream_entries (xs ++ ys)))) (sym same)
          (behind (chunks_of_bytes t m r at (addresses (e ∷ others_of xs)))
          (chunks_from t m (at + byte_count (e ∷ others_of xs)) (stream_entries xs))
          (chunks_from t m (at + byte_count (e ∷ others_of xs)) (stream_entries (xs ++ ys)))
          (chunks_front t m (at + byte_count (e ∷ others_of xs)) xs ys eff))
    ]
chunks_front t m at (Of e false r ∷ xs) ys eff = chunks_front t m at xs ys eff
chunks_front t m at (Unmapped n ∷ xs) ys eff = chunks_front t m at xs ys eff

-- ---- a front needs no more pages, and has no more pieces

last_need : (o : Option Chunk) (other : List Chunk) → IfSome o (λ c. BeginsLonger c other) →
    need_of (option_to_list o) ≤ need_of other
last_need None other h = omega arith
last_need (Some c) [] h = absurd h
last_need (Some c) (d ∷ ds) h = omega (arith, need_first c [], need_first d ds, ap {B = ℕ} (λ b. cond b 1 0) h.bounced)

front_need : (cs ds : List Chunk) → IsFront cs ds → need_of cs ≤ need_of ds
front_need cs ds f =
    omega (
      arith,
      ap need_of f.front_is,
      ap need_of f.whole_is,
      need_append f.shared (option_to_list f.last),
      need_append f.shared f.other,
      last_need f.last f.other f.longer,
    )

longer_pieces : (t : TagLimits) (c d : Chunk) (ds : List Chunk) (pages : List Pa) → IsEffective t → IsPlaceable t c →
    IsPlaceable t d → IsLonger c d → length (placed_pieces t (c ∷ []) pages) ≤ length (placed_pieces t (d ∷ ds) pages)
longer_pieces t c d ds pages eff sc sd l =
    let keep = keep_pg_offset t.flags in
    let len = l.len in
    let same = ap (λ (a : Pa). a.0) l.begins in
    (elim c.bounced as (λ b. c.bounced ≡ b →
    length (chunk_pieces t (cond b (in_page keep (first_page pages) c ∷ []) (c ∷ [])))
    ≤ length (placed_pieces t (d ∷ ds) pages)) [
      | true ↦ λ w.
          let p = first_page pages in
          let other : chunks_in_pages keep (d ∷ ds) pages ≡ in_page keep p d ∷ chunks_in_pages keep ds (drop 1 pages) =
          rw (l.bounced ∙ w) refl in
          let at : p.0 + page_offset keep d.first.pa.0 ≡ p.0 + page_offset keep c.first.pa.0 =
          ap (λ (n : ℕ). p.0 + page_offset keep n) same in
          omega (
            arith,
            ap (λ cs. length (chunk_pieces t cs)) other,
            length-append (pieces_of t (bus_addresses (in_page keep p d)))
                (chunk_pieces t (chunks_in_pages keep ds (drop 1 pages))),
            ap (λ (n : ℕ). length (pieces_of t (run_of n (chunk_len d)))) at,
            run_longer t (p.0 + page_offset keep c.first.pa.0) (chunk_len c) (chunk_len d) eff.maxsegsz len,
            length-append (pieces_of t (bus_addresses (in_page keep p c))) [],
          )
      | false ↦ λ w.
          let other : chunks_in_pages keep (d ∷ ds) pages ≡ d ∷ chunks_in_pages keep ds pages =
          rw (l.bounced ∙ w) refl in
          let one = ap (λ bs. length (pieces_of t bs)) (own_run t c sc w) in
          let two = ap (λ bs. length (pieces_of t bs)) (own_run t d sd (l.bounced ∙ w)) in
          omega (
            arith,
            ap (λ cs. length (chunk_pieces t cs)) other,
            length-append (pieces_of t (bus_addresses d)) (chunk_pieces t (chunks_in_pages keep ds pages)),
            one,
            two,
            ap (λ (n : ℕ). length (pieces_of t (run_of n (chunk_len d)))) same,
            run_longer t c.first.pa.0 (chunk_len c) (chunk_len d) eff.maxsegsz len,
            length-append (pieces_of t (bus_addresses c)) [],
          )
    ]) refl

last_pieces : (t : TagLimits) (o : Option Chunk) (other : List Chunk) (pages : List Pa) → IsEffective t →
    AllByRecursion (IsPlaceable t) (option_to_list o) → AllByRecursion (IsPlaceable t) other →
    IfSome o (λ c. BeginsLonger c other) →
    length (placed_pieces t (option_to_list o) pages) ≤ length (placed_pieces t other pages)
last_pieces t None other pages eff x y h = omega arith
last_pieces t (Some c) [] pages eff x y h = absurd h
last_pieces t (Some c) (d ∷ ds) pages eff x y h = longer_pieces t c d ds pages eff x.0 y.0 h

front_pieces : (t : TagLimits) (cs ds : List Chunk) (pages : List Pa) → IsEffective t → AllByRecursion (IsPlaceable t)
    cs →
    AllByRecursion (IsPlaceable t) ds → IsFront cs ds →
    length (placed_pieces t cs pages) ≤ length (placed_pieces t ds pages)
front_pieces t cs ds pages eff x y f =
    let own = option_to_list f.last in
    let left = drop (need_of f.shared) pages in
    let a = all_second (IsPlaceable t) f.shared own (subst (AllByRecursion (IsPlaceable t)) f.front_is x) in
    let b = all_second (IsPlaceable t) f.shared f.other (subst (AllByRecursion (IsPlaceable t)) f.whole_is y) in
    omega (
      arith,
      ap (λ xs. length (placed_pieces t xs pages)) f.front_is,
      ap (λ xs. length (placed_pieces t xs pages)) f.whole_is,
      ap length (pieces_append t f.shared own pages),
      ap length (pieces_append t f.shared f.other pages),
      length-append (placed_pieces t f.shared pages) (placed_pieces t own left),
      length-append (placed_pieces t f.shared pages) (placed_pieces t f.other left),
      last_pieces t f.last f.other left eff a b f.longer,
    )

-- the front of a stream requires no more than the stream
pub fronts_ask : (t : TagLimits) (m : ℕ) (pages : List Pa) → IsEffective t → FrontsAskNoMore t m pages
fronts_ask t m pages eff xs ys h =
    let stream = IsStream-front xs ys h in
    let front = chunks_front t m 0 xs ys eff in
    record {
      stream = stream;
      need = front_need (stream_chunks t m xs) (stream_chunks t m (xs ++ ys)) front;
      pieces =
          front_pieces t (stream_chunks t m xs) (stream_chunks t m (xs ++ ys)) pages eff
          (chunks_sound t m (stream_entries xs) eff stream.entries)
          (chunks_sound t m (stream_entries (xs ++ ys)) eff h.entries) front;
    }

pub HasRooms-front : (t : TagLimits) (m : ℕ) (pages : List Pa) (room bounced_room : ℕ) → FrontsAskNoMore t m pages →
    (xs ys : List Part) → HasRooms t m pages room bounced_room (xs ++ ys) → HasRooms t m pages room bounced_room xs
HasRooms-front t m pages room bounced_room fronts xs ys h =
    let front = fronts xs ys h.stream in
    let need = front.need in
    let pieces = front.pieces in
    let fits = h.fits in
    let few = h.need in
    let bounced = h.bounced_fit in
    record { stream = front.stream; need = omega arith; fits = omega arith; bounced_fit = omega arith }

-- the stream of the entries of a load has pages and room, if its chunks do
pub entries_have_rooms : (t : TagLimits) (m : ℕ) (pages : List Pa) (room bounced_room : ℕ) (es : List Entry) →
    AllByRecursion IsEntry es → entries_bytes es ≤ 2 ^ 20 → need_of (chunks_of t m es) ≤ length pages →
    min (length (placed_pieces t (chunks_of t m es) pages)) t.nsegments ≤ room →
    need_of (chunks_of t m es) ≤ bounced_room → HasRooms t m pages room bounced_room (parts_of es)
entries_have_rooms t m pages room bounced_room es entries bytes need fits bounced =
    let same = chunks_of_parts t m es in
    record {
      stream = stream_of_entries es entries bytes;
      need = omega (arith, ap need_of same);
      fits = omega (arith, ap (λ cs. length (placed_pieces t cs pages)) same);
      bounced_fit = omega (arith, ap need_of same);
    }
