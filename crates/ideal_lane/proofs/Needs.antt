-- A load needs no more pages than it has bytes.
use Rattle.std.proofs.Common.{◌≡◌, ℕ, zero, suc, ◌+◌, ◌≤◌, ◌==◌, Bool, true, false, cond, if◌then◌else◌, List, [], ◌∷◌}
use Rattle.std.proofs.Common.{length, refl, ap, sym, ◌∙◌, arith, drop, Option, Some, None, ◌%◌}
use Rattle.std.proofs.lemmas.List.{length-append}
use Rattle.std.proofs.lemmas.List.Sums.{sum_by-cons}
use Rattle.std.specs.Option.{option_map, option_map_or}
use Rattle.busdma_machine.specs.declared.machine.bio.Bio.{Bio}
use Rattle.busdma_machine.specs.declared.machine.chunk.Chunk.{Chunk}
use Rattle.busdma_machine.specs.declared.machine.chunk.Entry.{Entry}
use Rattle.busdma_machine.specs.declared.machine.address.Extent.{Extent}
use Rattle.busdma_machine.specs.declared.machine.address.Span.{Span}
use Rattle.busdma_base.specs.declared.scenarios.buffer.Buffer.{Buffer}
use Rattle.busdma_base.specs.declared.scenarios.buffer.Buffer.TheVariants as buffer
use Rattle.busdma_machine.specs.declared.tags.tag.TagLimits.{TagLimits}
use Rattle.busdma_machine.specs.Machine.Entry.{entry_addresses, entries_addresses}
use Rattle.busdma_machine.specs.Machine.Spans.{bio_spans, span_bytes}
use Rattle.busdma_machine.specs.Runs.{addresses, byte_count, run_of}
use Rattle.busdma_base.specs.Scenarios.Buffers.{buffer_bytes, counted_bytes}
use Rattle.busdma_rules.specs.Memory.Bios.{is_rounded}
use Rattle.busdma_rules.specs.Memory.Extents.{extents_of, with_byte, reached_addresses, then_reached}
use Rattle.busdma_rules.specs.Memory.Translation.{Translation}
use Rattle.busdma_rules.specs.Memory.Vectors.{entries_of, with_entry}
use Rattle.busdma_rules.specs.Segments.Chunks.{chunk_limit, chunks_within, chunks_of_bytes, chunks_from, chunks_of}
use Rattle.busdma_rules.specs.Segments.Chunks.{bounced_of}
use Rattle.busdma_rules.specs.Segments.Chunks.{need_of}
use Rattle.ideal_lane.specs.State.{LaneState, LaneMap}
use Rattle.ideal_lane.specs.Loads.{limits_of, chunks_for, load_entries, load_translation, one_entry}
use Rattle.ideal_lane.specs.Places.{virtual_at}
use Rattle.ideal_lane.specs.Turns.{bio_at, flat_bio}

few-bounced : (cs : List Chunk) → length (bounced_of cs) ≤ length cs
few-bounced [] = omega arith
few-bounced (c ∷ cs) =
    elim c.bounced as (λ b. length (cond b (c ∷ bounced_of cs) (bounced_of cs)) ≤ suc (length cs))
    [ true ↦ omega (arith, few-bounced cs) | false ↦ omega (arith, few-bounced cs) ]

few-within : (n : ℕ) (t : TagLimits) (maxmem : ℕ) (rounded : Bool) (at : ℕ) (bytes : List ℕ) →
    length (chunks_within n t maxmem rounded at bytes) ≤ n
few-within zero t maxmem rounded at bytes = omega arith
few-within (suc n) t maxmem rounded at [] = omega arith
few-within (suc n) t maxmem rounded at (a ∷ bs) =
    let most = chunk_limit t maxmem rounded a in
    omega (arith, few-within n t maxmem rounded (at + most) (drop most (a ∷ bs)))

few-from : (t : TagLimits) (maxmem at : ℕ) (es : List Entry) →
    length (chunks_from t maxmem at es) ≤ length (entries_addresses es)
few-from t maxmem at [] = omega arith
few-from t maxmem at (e ∷ es) =
    omega (
      arith,
      few-within (length (entry_addresses e)) t maxmem e.rounded at (entry_addresses e),
      few-from t maxmem (at + byte_count e.parts) es,
      length-append (chunks_of_bytes t maxmem e.rounded at (entry_addresses e))
          (chunks_from t maxmem (at + byte_count e.parts) es),
      length-append (entry_addresses e) (entries_addresses es),
    )

-- ---- how many bytes entries have

run-length : (a n : ℕ) → length (run_of a n) ≡ n
run-length a zero = refl
run-length a (suc n) = omega (arith, run-length (a + 1) n)

byte-length : (pa : ℕ) (es : List Extent) → length (addresses (with_byte pa es)) ≤ 1 + length (addresses es)
byte-length pa [] = omega arith
byte-length pa (e ∷ es) = by (e.pa.0 % 4096 == 0)
  where
    by : (b : Bool) →
        length
        (addresses (cond b (record { pa = record { 0 = pa }; len = 1 } ∷ e ∷ es)
        (record { pa = record { 0 = pa }; len = 1 + e.len } ∷ es))) ≤ 1 + length (addresses (e ∷ es))
    by true =
        let all : length (addresses (record { pa = record { 0 = pa }; len = 1 } ∷ e ∷ es))
        ≡ suc (length (addresses (e ∷ es))) = refl in
        omega (arith, all)
    by false =
        let all : length (addresses (record { pa = record { 0 = pa }; len = 1 + e.len } ∷ es))
        ≡ length (run_of pa (1 + e.len)) + length (addresses es) =
        length-append (run_of pa (1 + e.len)) (addresses es) in
        let old : length (addresses (e ∷ es)) ≡ length (run_of e.pa.0 e.len) + length (addresses es) =
        length-append (run_of e.pa.0 e.len) (addresses es) in
        omega (arith, all, old, run-length pa (1 + e.len), run-length e.pa.0 e.len)

extents-length : (pas : List ℕ) → length (addresses (extents_of pas)) ≤ length pas
extents-length [] = omega arith
extents-length (pa ∷ pas) = omega (arith, byte-length pa (extents_of pas), extents-length pas)

entry-length : (rounded : Bool) (pas : List ℕ) (es : List Entry) →
    length (entries_addresses (with_entry rounded pas es)) ≤ length pas + length (entries_addresses es)
entry-length rounded [] es = omega arith
entry-length rounded (pa ∷ pas) es =
    omega (arith, length-append (addresses (extents_of (pa ∷ pas))) (entries_addresses es), extents-length (pa ∷ pas))

reached-length : (t : Translation) (va n : ℕ) → length (reached_addresses t va n) ≤ n
reached-length t va zero = omega arith
reached-length t va (suc n) = by (t va) (reached-length t (va + 1) n)
  where
    by : (x : Option ℕ) → length (reached_addresses t (va + 1) n) ≤ n →
        length (then_reached x (reached_addresses t (va + 1) n)) ≤ suc n
    by None h = omega arith
    by (Some pa) h = omega (arith, h)

entries-length : (rounded : Bool) (t : Translation) (spans : List Span) →
    length (entries_addresses (entries_of rounded t spans)) ≤ span_bytes spans
entries-length rounded t [] = omega arith
entries-length rounded t (s ∷ ss) = by (length (reached_addresses t s.va.0 s.len) == s.len)
    (entries-length rounded t ss)
  where
    by : (b : Bool) → length (entries_addresses (entries_of rounded t ss)) ≤ span_bytes ss →
        length
        (entries_addresses (with_entry rounded (reached_addresses t s.va.0 s.len) (if b then entries_of rounded t ss
        else []))) ≤ span_bytes (s ∷ ss)
    by true h =
        omega (
          arith,
          h,
          entry-length rounded (reached_addresses t s.va.0 s.len) (entries_of rounded t ss),
          reached-length t s.va.0 s.len,
          sum_by-cons (λ (x : Span). x.len) s ss,
        )
    by false h =
        omega (
          arith,
          entry-length rounded (reached_addresses t s.va.0 s.len) [],
          reached-length t s.va.0 s.len,
          sum_by-cons (λ (x : Span). x.len) s ss,
        )

-- how many bytes a bio has, if there is one
abbrev bytes_of : Option Bio → ℕ
bytes_of o = option_map_or (λ b. span_bytes (bio_spans b)) o 0

abbrev span_at : ℕ → ℕ → Span
span_at va len = record { va = record { 0 = va }; len = len }

-- a buffer has the bytes of its bio
bio-bytes : (l : LaneState) (x : Buffer) (b : Bio) → bio_at l x ≡ Some b → span_bytes (bio_spans b) ≡ buffer_bytes x
bio-bytes l (buffer.Flat place len) b e = by (virtual_at l place) e
  where
    by : (va : Option ℕ) → option_map (flat_bio len) va ≡ Some b → span_bytes (bio_spans b) ≡ len
    by None e = absurd (cc)
    by (Some va) e = sym (ap bytes_of e) ∙ omega (arith, sum_by-cons (λ (s : Span). s.len) (span_at va len) [])
bio-bytes l (buffer.Vector spans) b e = sym (ap bytes_of e)
bio-bytes l (buffer.Mbuf chain) b e = sym (ap bytes_of e)
bio-bytes l (buffer.Bio bio) b e = sym (ap bytes_of e)
bio-bytes l (buffer.Send chain clusters) b e = sym (ap bytes_of e)

-- the entries of a load have at most the bytes of its buffer
pub bytes-few : (l : LaneState) (x : Buffer) (b : Bio) → bio_at l x ≡ Some b →
    length (entries_addresses (load_entries l b)) ≤ buffer_bytes x
bytes-few l x b e =
    omega (arith, bio-bytes l x b e, entries-length (is_rounded b) (load_translation l b) (bio_spans b))

-- a buffer counts at least as many bytes as it has
pub bytes-counted : (x : Buffer) → buffer_bytes x ≤ counted_bytes x
bytes-counted (buffer.Flat place len) = omega arith
bytes-counted (buffer.Vector spans) = omega arith
bytes-counted (buffer.Mbuf chain) = omega arith
bytes-counted (buffer.Bio bio) = omega arith
bytes-counted (buffer.Send chain clusters) = omega arith

-- the chunks of a load of a map need at most as many pages as the load's entries have bytes
pub need-few : (l : LaneState) (o : LaneMap) (memory : Bool) (es : List Entry) →
    need_of (chunks_for l o memory es) ≤ length (entries_addresses es)
need-few l o true es =
    let t : TagLimits = record (limits_of l o) { alignment = 1 } in
    omega (
      arith,
      few-bounced (chunks_of t 0 (one_entry es)),
      few-from t 0 0 (one_entry es),
      entry-length true (entries_addresses es) [],
    )
need-few l o false es =
    omega (arith, few-bounced (chunks_of (limits_of l o) l.maxmem es), few-from (limits_of l o) l.maxmem 0 es)
