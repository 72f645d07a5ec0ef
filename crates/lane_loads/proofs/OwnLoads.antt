-- The load of a memory's own map: its bytes are the memory's first ones, and its chunks those of a run.
use Rattle.std.proofs.Common.{◌≡◌, ℕ, zero, suc, ◌+◌, ◌<◌, ◌≤◌, ◌==◌, ◌&&◌, not, Bool, true, false, nat_lt, min}
use Rattle.std.proofs.Common.{List, [], ◌∷◌, length, Some, is_some, slice_get, refl, sym, ap, ◌∙◌, subst, arith}
use Rattle.std.proofs.Common.{length-append}
use Rattle.std.proofs.lemmas.Bool.{and_parts, ltb-true}
use Rattle.std.proofs.lemmas.List.Sums.{sum_by-cons}
use Rattle.std.specs.FinMap.{get}
use Rattle.busdma_machine.specs.declared.report.Judged.TheVariants.{Fine}
use Rattle.busdma_machine.specs.declared.machine.address.Pa.{Pa}
use Rattle.busdma_machine.specs.declared.machine.address.Span.{Span}
use Rattle.busdma_machine.specs.declared.machine.bio.Bio.{Bio}
use Rattle.busdma_machine.specs.declared.machine.bio.Bio.TheVariants.{Mapped, Unmapped, Vector}
use Rattle.busdma_machine.specs.declared.machine.chunk.Chunk.{Chunk}
use Rattle.busdma_machine.specs.declared.tags.tag.TagLimits.{TagLimits}
use Rattle.busdma_machine.specs.Machine.Page.{FrameBytes}
use Rattle.busdma_machine.specs.Machine.Spans.{bio_spans, span_addresses, span_bytes}
use Rattle.busdma_machine.specs.Runs.{run_of}
use Rattle.busdma_machine.specs.Tags.TagFlags.{keep_pg_offset}
use Rattle.dma_map.specs.declared.room.LoadRoom.{LoadRoom}
use Rattle.loan_table.proofs.Judgement.{length-run_of}
use Rattle.memory_load.specs.MemoryLoad.{run_chunks, run_entries, memory_pieces, run_segments}
use Rattle.memory_load.proofs.Unbounced.{none_bounced, stay_placed, unbounced}
use Rattle.busdma_rules.specs.Memory.Vectors.{with_entry}
use Rattle.busdma_rules.specs.Segments.Building.{placed_pieces, tag_placed}
use Rattle.busdma_rules.specs.Segments.Chunks.{bounced_of, chunks_of, need_of}
use Rattle.busdma_rules.specs.Segments.Pieces.{chunk_pieces}
use Rattle.busdma_rules.specs.Segments.Segmentation.{segmentation}
use Rattle.ideal_lane.specs.Loads.{chunks_for, is_foreign_in, limits_of, load_entries, load_judged}
use Rattle.ideal_lane.specs.Places.{begin_of}
use Rattle.ideal_lane.specs.Standing.{Stands}
use Rattle.ideal_lane.specs.State.{LaneMap, LaneMemory, LaneState}
use Rattle.ideal_wire.specs.Laid.{AreLaid}
use Rattle.ideal_wire.specs.Machine.{IsInMachine}
use Rattle.ideal_wire.proofs.Loads.MemoryLoads.{memory-bytes}
use Rattle.ideal_wire.proofs.Loads.Reaching.{each-byte}
use Rattle.lane_state.specs.Loading.{AreFirstEntries, AreItsFirst, HasRoomFor}
use Rattle.lane_state.specs.Loading.{HasRoomForAny, IsFilled, IsOverfull, IsWanted}
use Rattle.lane_state.specs.Loading.{bio_bytes, map_chunks}

-- ---- its bytes

count-bytes : (spans : List Span) → length (span_addresses spans) ≡ span_bytes spans
count-bytes [] = refl
count-bytes (s ∷ ss) =
    omega (
      arith,
      length-append (run_of s.va.0 s.len) (span_addresses ss),
      length-run_of s.va.0 s.len,
      count-bytes ss,
      sum_by-cons (λ (x : Span). x.len) s ss,
    )

-- the last of bytes
last-of : (n : ℕ) (xs : List ℕ) → length xs ≡ suc n → (v : ℕ) × (slice_get xs n ≡ Some v)
last-of n [] e = absurd (omega arith)
last-of zero (x ∷ xs) e = (x, refl)
last-of (suc n) (x ∷ xs) e = last-of n xs (omega arith)

module _ (l : LaneState) (m : ℕ) (x : LaneMemory) (found : get l.mems m ≡ Some x) (b : Bio)
    (fine : load_judged l m b ≡ Fine) where
  -- a byte at a place past the memory's end would be foreign
  inside : (b : Bio) (k va : ℕ) → is_foreign_in b (Some x) l k va ≡ false → k < x.len
  inside (Mapped span) k va h = by (va == begin_of x + k && nat_lt k x.len) refl h
    where
      by : (t : Bool) → (va == begin_of x + k && nat_lt k x.len) ≡ t → not t ≡ false → k < x.len
      by true e h = ltb-true k x.len (and_parts (va == begin_of x + k) (nat_lt k x.len) e).1
      by false e h = absurd (cc)
  inside (Vector spans) k va h = by (va == begin_of x + k && nat_lt k x.len) refl h
    where
      by : (t : Bool) → (va == begin_of x + k && nat_lt k x.len) ≡ t → not t ≡ false → k < x.len
      by true e h = ltb-true k x.len (and_parts (va == begin_of x + k) (nat_lt k x.len) e).1
      by false e h = absurd (cc)
  inside (Unmapped frames off len) k va h = absurd (cc)

  fits : bio_bytes b ≤ x.len
  fits = by (bio_bytes b) refl
    where
      by : (n : ℕ) → bio_bytes b ≡ n → bio_bytes b ≤ x.len
      by zero e = omega (arith, e)
      by (suc n) e =
          let last = last-of n (span_addresses (bio_spans b)) (count-bytes (bio_spans b) ∙ e) in
          let r = each-byte l m b fine n last.0 last.1 in
          let below = inside b n last.0 (sym (ap (λ q. is_foreign_in b q l n last.0) found) ∙ r.2) in
          omega (arith, e, below)

-- a load that is not refused has the first bytes of the memory
pub first-loaded : (l : LaneState) → AreLaid l → IsInMachine l → Stands l → (m : ℕ) (o : LaneMap) →
    get l.maps m ≡ Some o → (b : Bio) → load_judged l m b ≡ Fine → AreItsFirst l m b
first-loaded l laid machine stands m o there b fine x found =
    let few = fits l m x found b fine in
    let room = (laid.runs m x found).room in
    let end = machine.mems m x found in
    let numbered = machine.numbered in
    record {
      run = memory-bytes l laid machine stands m o there x found b fine;
      inside = omega (arith, few, room, end, numbered);
    }

-- ---- its chunks

-- no chunk of a run is bounced, whichever pages there are
module _ (t : TagLimits) (first len : ℕ) where
  abbrev cs : List Chunk
  cs = run_chunks t first len

  stay : (pages : List Pa) → tag_placed t cs pages ≡ cs
  stay pages = stay_placed (keep_pg_offset t.flags) cs pages (unbounced t 0 (run_entries first len))

  run-need : need_of cs ≡ 0
  run-need = ap length (none_bounced cs (unbounced t 0 (run_entries first len)))

  run-pieces : (pages : List Pa) → placed_pieces t cs pages ≡ memory_pieces t first len
  run-pieces pages = ap (chunk_pieces t) (stay pages ∙ sym (stay []))

  run-bounced : (pages : List Pa) → bounced_of (tag_placed t cs pages) ≡ []
  run-bounced pages = ap bounced_of (stay pages) ∙ none_bounced cs (unbounced t 0 (run_entries first len))

  run-filled : (pages : List Pa) (room : LoadRoom) → room.list.items ≡ run_segments t first len →
      length (run_segments t first len) ≤ t.nsegments → room.bounced.items ≡ [] → IsFilled t cs pages room
  run-filled pages room are few none = record {
    segments = are ∙ ap (segmentation t) (sym (run-pieces pages));
    few = subst (λ ss. length ss ≤ t.nsegments) (sym are) few;
    bounced = none ∙ sym (run-bounced pages);
  }

  run-overfull : (pages : List Pa) (room : LoadRoom) → t.nsegments < length (run_segments t first len) →
      room.list.items ≡ [] → IsOverfull t cs pages room
  run-overfull pages room many none = record {
    many = subst (λ ps. t.nsegments < length (segmentation t ps)) (sym (run-pieces pages)) many;
    none = none;
  }

module _ (l : LaneState) (m : ℕ) (o : LaneMap) (b : Bio) (x : LaneMemory) (found : get l.mems m ≡ Some x)
    (first : AreFirstEntries l x b) (t : TagLimits) (limits : limits_of l o ≡ t) where
  -- the chunks of the load are the chunks of the memory's run
  pub own-chunks : map_chunks l m o b ≡ run_chunks t x.first (bio_bytes b)
  own-chunks =
      ap (λ q. chunks_for l o (is_some q) (load_entries l b)) found
      ∙ ap (λ pas. chunks_of (record (limits_of l o) { alignment = 1 }) 0 (with_entry true pas [])) first.run
      ∙ ap (λ (u : TagLimits). run_chunks u x.first (bio_bytes b)) limits

  -- the load needs no page, and room for as many segments as the run has pieces
  pub own-wanted : bio_bytes b ≤ t.maxsize → (room : ℕ) →
      min (length (memory_pieces t x.first (bio_bytes b))) t.nsegments ≤ room →
      IsWanted (limits_of l o) (map_chunks l m o b) (bio_bytes b) 0 room
  own-wanted short room enough =
      subst (λ (p : TagLimits × List Chunk). IsWanted p.0 p.1 (bio_bytes b) 0 room)
      (λ i. (sym limits i, sym own-chunks i)) base
    where
      base : IsWanted t (run_chunks t x.first (bio_bytes b)) (bio_bytes b) 0 room
      base = record {
        short = short;
        need = sym (run-need t x.first (bio_bytes b));
        segments = λ pages are.
            subst (λ ps. min (length ps) t.nsegments ≤ room) (sym (run-pieces t x.first (bio_bytes b) pages)) enough;
      }

  -- what is required of the load's room
  pub own-room : (n : ℕ) (room : LoadRoom) → HasRoomForAny (limits_of l o) (map_chunks l m o b) n room →
      HasRoomFor t (run_chunks t x.first (bio_bytes b)) [] room
  own-room n room has =
      let mine =
      subst (λ (p : TagLimits × List Chunk). HasRoomForAny p.0 p.1 n room) (λ i. (limits i, own-chunks i)) has in
      let none = run-need t x.first (bio_bytes b) in
      let need = mine.need in
      mine.any [] tt (sym none ∙ sym need)

  -- the load of a memory's own map has no pages
  pub own-pages : (pages : List FrameBytes) (room : LoadRoom) →
      HasRoomForAny (limits_of l o) (map_chunks l m o b) (length pages) room → pages ≡ []
  own-pages pages room has =
      none pages (has.need ∙ ap need_of own-chunks ∙ run-need t x.first (bio_bytes b))
    where
      none : (ps : List FrameBytes) → length ps ≡ 0 → ps ≡ []
      none [] e = refl
      none (p ∷ ps) e = absurd (omega arith)

  pub own-filled : (pages : List Pa) (room : LoadRoom) → room.list.items ≡ run_segments t x.first (bio_bytes b) →
      length (run_segments t x.first (bio_bytes b)) ≤ t.nsegments → room.bounced.items ≡ [] →
      IsFilled (limits_of l o) (map_chunks l m o b) pages room
  own-filled pages room are few none =
      subst (λ (p : TagLimits × List Chunk). IsFilled p.0 p.1 pages room) (λ i. (sym limits i, sym own-chunks i))
      (run-filled t x.first (bio_bytes b) pages room are few none)

  pub own-overfull : (pages : List Pa) (room : LoadRoom) →
      t.nsegments < length (run_segments t x.first (bio_bytes b)) → room.list.items ≡ [] →
      IsOverfull (limits_of l o) (map_chunks l m o b) pages room
  own-overfull pages room many none =
      subst (λ (p : TagLimits × List Chunk). IsOverfull p.0 p.1 pages room) (λ i. (sym limits i, sym own-chunks i))
      (run-overfull t x.first (bio_bytes b) pages room many none)
