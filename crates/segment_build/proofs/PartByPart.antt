-- The parts of a stream, one after the other.
use Rattle.std.proofs.Common.{◌≡◌, ℕ, zero, suc, ◌+◌, ◌-◌, ◌≤◌, ◌^◌, List, [], ◌∷◌, ◌++◌, length, drop, true, false}
use Rattle.std.proofs.Common.{cond, refl, ap, sym, ◌∙◌, subst, arith, append-nil, length-append}
use Rattle.std.specs.Prelude.{Option, Some, None, IfSome}
use Rattle.std.specs.Option.{option_to_list, option_or}
use Rattle.std.specs.List.{AllByRecursion, sum_by}
use Rattle.std.proofs.lemmas.List.Sums.{sum_by-cons, sum_by-append}
use Rattle.busdma_machine.specs.declared.machine.address.Pa.{Pa}
use Rattle.busdma_machine.specs.declared.machine.address.Extent.{Extent}
use Rattle.busdma_machine.specs.declared.machine.chunk.Chunk.{Chunk}
use Rattle.busdma_machine.specs.declared.machine.chunk.Entry.{Entry}
use Rattle.busdma_machine.specs.declared.machine.chunk.Part.{Part}
use Rattle.busdma_machine.specs.declared.machine.chunk.Part.TheVariants.{Of, Unmapped}
use Rattle.busdma_machine.specs.declared.tags.tag.TagLimits.{TagLimits}
use Rattle.busdma_machine.specs.Runs.{IsExtent, byte_count, run_of}
use Rattle.busdma_machine.specs.Machine.Entry.{IsEntry, IsPart, IsStream}
use Rattle.busdma_machine.specs.Machine.Entry.{entries_bytes, stream_entries, others_of}
use Rattle.busdma_machine.specs.Machine.Entry.{part_bytes, unmapped_of}
use Rattle.busdma_machine.specs.Tags.Tag.{IsEffective}
use Rattle.busdma_machine.specs.Tags.TagFlags.{keep_pg_offset}
use Rattle.segment_build.specs.declared.cutter.Cutter.{Cutter}
use Rattle.busdma_rules.specs.Segments.Building.{IsPlaceable, placed_pieces}
use Rattle.busdma_rules.specs.Segments.Chunks.{chunks_of, need_of}
use Rattle.segment_build.specs.Cutting.{cut_after, after_part, closed, closed_part, opened, uncut}
use Rattle.busdma_rules.specs.Segments.Pieces.{chunk_pieces, piece_len, pieces_of}
use Rattle.busdma_rules.specs.Segments.Trace.{bus_addresses, chunk_len, first_page}
use Rattle.busdma_rules.specs.Segments.Trace.{in_page, page_offset, chunks_in_pages}
use Rattle.segment_build.proofs.Chunking.{after_append, chunks_are, closed_append, cut_at}
use Rattle.busdma_rules.proofs.Segments.Counting.{chunk_bytes, chunks_bytes, need_small, pieces_append}
use Rattle.busdma_rules.proofs.Segments.Places.{pieces_from, pieces_are_from}
use Rattle.busdma_rules.proofs.Segments.Sound.{chunks_sound}
use Rattle.busdma_rules.proofs.Segments.PartByPart.{own_run}

-- ---- parts

part_at : (t : TagLimits) (m : ℕ) (s : Cutter) (p : Part) → (after_part t m s p).at ≡ s.at + part_bytes p
part_at t m s (Unmapped n) = omega arith
part_at t m s (Of e true r) = cut_at t m (opened true r s) e
part_at t m s (Of e false r) = cut_at t m s e

abbrev pub parts_bytes : List Part → ℕ
parts_bytes ps = sum_by part_bytes ps

after_at : (t : TagLimits) (m : ℕ) (s : Cutter) (ps : List Part) → (cut_after t m s ps).at ≡ s.at + parts_bytes ps
after_at t m s [] = omega arith
after_at t m s (p ∷ ps) =
    omega (arith, after_at t m (after_part t m s p) ps, part_at t m s p, sum_by-cons part_bytes p ps)

pub bytes_split : (ps : List Part) → parts_bytes ps ≡ byte_count (others_of ps) + entries_bytes (stream_entries ps)
bytes_split [] = refl
bytes_split (Of e true r ∷ ps) =
    omega (
      arith,
      bytes_split ps,
      sum_by-cons part_bytes (Of e true r) ps,
      sum_by-cons (λ (x : Extent). x.len) e (others_of ps),
      sum_by-cons (λ (x : Entry). byte_count x.parts)
          (record { rounded = r; parts = e ∷ others_of ps }) (stream_entries ps),
    )
bytes_split (Of e false r ∷ ps) =
    omega (
      arith,
      bytes_split ps,
      sum_by-cons part_bytes (Of e false r) ps,
      sum_by-cons (λ (x : Extent). x.len) e (others_of ps),
    )
bytes_split (Unmapped n ∷ ps) = omega (arith, bytes_split ps, sum_by-cons part_bytes (Unmapped n) ps)

each_part : (ps : List Part) → AllByRecursion IsExtent (others_of ps) →
    AllByRecursion IsEntry (stream_entries ps) → AllByRecursion IsPart ps
each_part [] h i = tt
each_part (Of e true r ∷ ps) h i = (i.0.extents.0, each_part ps i.0.extents.1 i.1)
each_part (Of e false r ∷ ps) h i = (h.0, each_part ps h.1 i)
each_part (Unmapped n ∷ ps) h i = (tt, each_part ps h i)

last_of_all : {X : Type 0} (P : X → Type 0) (xs : List X) (x : X) → AllByRecursion P (xs ++ x ∷ []) → P x
last_of_all P [] x h = h.0
last_of_all P (y ∷ ys) x h = last_of_all P ys x h.1

-- the next part of a stream
pub last_part : (ps : List Part) (p : Part) → IsStream (ps ++ p ∷ []) → IsPart p
last_part ps p h =
    last_of_all IsPart ps p
    (each_part (ps ++ p ∷ []) (subst (AllByRecursion IsExtent) (sym h.opens) tt) h.entries)

all_first : {X : Type 0} (P : X → Type 0) (xs ys : List X) → AllByRecursion P (xs ++ ys) → AllByRecursion P xs
all_first P [] ys h = tt
all_first P (x ∷ xs) ys h = (h.0, all_first P xs ys h.1)

all_second : {X : Type 0} (P : X → Type 0) (xs ys : List X) → AllByRecursion P (xs ++ ys) → AllByRecursion P ys
all_second P [] ys h = h
all_second P (x ∷ xs) ys h = all_second P xs ys h.1

if_listed : {X : Type 0} (P : X → Type 0) (o : Option X) → AllByRecursion P (option_to_list o) → IfSome o P
if_listed P None h = tt
if_listed P (Some x) h = h.0

-- the bytes of a stream so far
pub stream_at : (t : TagLimits) (m : ℕ) (ps : List Part) → IsStream ps →
    (cut_after t m uncut ps).at ≡ entries_bytes (stream_entries ps)
stream_at t m ps h = omega (arith, after_at t m uncut ps, bytes_split ps, ap byte_count h.opens)

-- ---- a stream and its chunks

-- what holds of a stream's chunks
pub record Holds (t : TagLimits) (m : ℕ) (ps : List Part) : Type 0 where
  pub chunks : closed t m uncut ps ++ option_to_list (cut_after t m uncut ps).last ≡ chunks_of t m (stream_entries ps)
  pub sound : AllByRecursion (IsPlaceable t) (closed t m uncut ps)
  pub last_sound : IfSome (cut_after t m uncut ps).last (IsPlaceable t)
  pub at : (cut_after t m uncut ps).at ≡ entries_bytes (stream_entries ps)
  pub bytes : chunk_bytes (closed t m uncut ps) + chunk_bytes (option_to_list (cut_after t m uncut ps).last) ≤ 2 ^ 20
  pub need : need_of (closed t m uncut ps) ≤ 2 ^ 20

pub holds : (t : TagLimits) (m : ℕ) (ps : List Part) → IsEffective t → IsStream ps → Holds t m ps
holds t m ps eff h =
    let cs = closed t m uncut ps in
    let last = option_to_list (cut_after t m uncut ps).last in
    let all = chunks_are t m ps eff h in
    let sound = subst (AllByRecursion (IsPlaceable t)) (sym all) (chunks_sound t m (stream_entries ps) eff h.entries) in
    let small = h.bytes in
    let bytes : chunk_bytes cs + chunk_bytes last ≤ 2 ^ 20 =
    omega (
      arith,
      sum_by-append chunk_len cs last,
      ap chunk_bytes all,
      chunks_bytes t m (stream_entries ps) eff,
      small,
    ) in
    record {
      chunks = all;
      sound = all_first (IsPlaceable t) cs last sound;
      last_sound = if_listed (IsPlaceable t) (cut_after t m uncut ps).last (all_second (IsPlaceable t) cs last sound);
      at = stream_at t m ps h;
      bytes = bytes;
      need = omega (arith, need_small t cs (all_first (IsPlaceable t) cs last sound), bytes);
    }

-- what holds at the next part of a stream
pub record HoldsAt (t : TagLimits) (m : ℕ) (ps : List Part) (p : Part) : Type 0 where
  pub part : IsPart p
  pub fits : (cut_after t m uncut ps).at + part_bytes p ≤ 2 ^ 20
  pub sound : IfSome (closed_part (cut_after t m uncut ps) p) (IsPlaceable t)
  pub closed_are : closed t m uncut (ps ++ p ∷ []) ≡ closed t m uncut ps
      ++ option_to_list (closed_part (cut_after t m uncut ps) p)
  pub after_is : cut_after t m uncut (ps ++ p ∷ []) ≡ after_part t m (cut_after t m uncut ps) p
  pub chunks : AllByRecursion (IsPlaceable t) (closed t m uncut ps)
  pub bytes : chunk_bytes (closed t m uncut ps) ≤ 2 ^ 20
  pub need : need_of (closed t m uncut ps) ≤ 2 ^ 20

pub holds_at : (t : TagLimits) (m : ℕ) (ps : List Part) (p : Part) → IsEffective t →
    IsStream (ps ++ p ∷ []) → HoldsAt t m ps p
holds_at t m ps p eff h =
    let cs = closed t m uncut ps in
    let one = option_to_list (closed_part (cut_after t m uncut ps) p) in
    let all = holds t m (ps ++ p ∷ []) eff h in
    let more : closed t m uncut (ps ++ p ∷ []) ≡ cs ++ one =
    closed_append t m uncut ps (p ∷ []) ∙ ap (λ xs. cs ++ xs) (append-nil one) in
    let next = after_append t m uncut ps (p ∷ []) in
    let small = h.bytes in
    let sound = subst (AllByRecursion (IsPlaceable t)) more all.sound in
    let bytes : chunk_bytes cs ≤ 2 ^ 20 =
    omega (arith, sum_by-append chunk_len cs one, ap chunk_bytes more, all.bytes) in
    record {
      part = last_part ps p h;
      fits = omega (arith, all.at, ap (λ (s : Cutter). s.at) next, part_at t m (cut_after t m uncut ps) p, small);
      sound = if_listed (IsPlaceable t) (closed_part (cut_after t m uncut ps) p)
          (all_second (IsPlaceable t) cs one sound);
      closed_are = more;
      after_is = next;
      chunks = all_first (IsPlaceable t) cs one sound;
      bytes = bytes;
      need = omega (arith, need_small t cs (all_first (IsPlaceable t) cs one sound), bytes);
    }

-- ---- how many pieces

from_few : (n : ℕ) (t : TagLimits) (a left : ℕ) → length (pieces_from n t a left) ≤ n
from_few zero t a left = omega arith
from_few (suc n) t a zero = omega arith
from_few (suc n) t a (suc l) = omega (arith, from_few n t (a + piece_len t a (suc l)) (suc l - piece_len t a (suc l)))

run_few : (t : TagLimits) (a n : ℕ) → IsEffective t → length (pieces_of t (run_of a n)) ≤ n
run_few t a n eff = omega (arith, ap length (pieces_are_from t a n eff.maxsegsz), from_few n t a n)

-- no more pieces than bytes
pub pieces_few : (t : TagLimits) (cs : List Chunk) (pages : List Pa) → IsEffective t → AllByRecursion (IsPlaceable t)
    cs →
    length (placed_pieces t cs pages) ≤ chunk_bytes cs
pieces_few t [] pages eff h = omega arith
pieces_few t (c ∷ cs) pages eff h =
    let keep = keep_pg_offset t.flags in
    let all = sum_by-cons chunk_len c cs in
    (elim c.bounced as (λ b. c.bounced ≡ b →
    length
    (chunk_pieces t (cond b (in_page keep (first_page pages) c ∷ chunks_in_pages keep cs (drop 1 pages))
    (c ∷ chunks_in_pages keep cs pages))) ≤ chunk_bytes (c ∷ cs)) [
      | true ↦
          λ w. omega (
            arith,
            all,
            run_few t ((first_page pages).0 + page_offset keep c.first.pa.0) (chunk_len c) eff,
            pieces_few t cs (drop 1 pages) eff h.1,
            length-append (pieces_of t (bus_addresses (in_page keep (first_page pages) c)))
                (chunk_pieces t (chunks_in_pages keep cs (drop 1 pages))),
          )
      | false ↦ λ w. omega (
        arith,
        all,
        ap (λ bs. length (pieces_of t bs)) (own_run t c h.0 w),
        run_few t c.first.pa.0 (chunk_len c) eff,
        pieces_few t cs pages eff h.1,
        length-append (pieces_of t (bus_addresses c)) (chunk_pieces t (chunks_in_pages keep cs pages)),
      )
    ]) refl

-- the first byte that cannot be reached, after one more part
pub unmapped_last : (ps : List Part) (p : Part) →
    unmapped_of (ps ++ p ∷ []) ≡ option_or (unmapped_of ps) (unmapped_of (p ∷ []))
unmapped_last [] p = refl
unmapped_last (Of e o r ∷ ps) p = unmapped_last ps p
unmapped_last (Unmapped n ∷ ps) p = refl

no_pages : (k : ℕ) → drop {A = Pa} k [] ≡ []
no_pages zero = refl
no_pages (suc k) = refl

-- the number of pieces after more chunks
pub pieces_more : (t : TagLimits) (xs ys : List Chunk) →
    length (placed_pieces t (xs ++ ys) []) ≡ length (placed_pieces t xs []) + length (placed_pieces t ys [])
pieces_more t xs ys =
    ap length (pieces_append t xs ys [])
    ∙ (length-append (placed_pieces t xs []) (placed_pieces t ys (drop (need_of xs) []))
    ∙ ap (λ ps. length (placed_pieces t xs []) + length (placed_pieces t ys ps)) (no_pages (need_of xs)))
