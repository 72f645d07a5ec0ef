-- The runs of a stream, one part after the other.
use Rattle.std.proofs.Common.{◌≡◌, ℕ, ◌+◌, ◌*◌, ◌/◌, ◌%◌, ◌≤◌, ◌^◌, List, [], ◌∷◌, ◌++◌, length, map, true, false}
use Rattle.std.proofs.Common.{refl, ap, sym, ◌∙◌, arith, append-nil, append_assoc, length-append}
use Rattle.std.specs.Option.{option_to_list}
use Rattle.std.specs.List.{AllByRecursion, sum_by}
use Rattle.std.proofs.lemmas.List.{length-map}
use Rattle.std.proofs.lemmas.List.Concat.{flat_map-append}
use Rattle.std.proofs.lemmas.List.Sums.{sum_by-cons}
use Rattle.busdma_machine.specs.declared.machine.address.Extent.{Extent}
use Rattle.busdma_machine.specs.declared.machine.address.Segment.{Segment}
use Rattle.busdma_machine.specs.declared.machine.chunk.Entry.{Entry}
use Rattle.busdma_machine.specs.declared.machine.chunk.Part.{Part}
use Rattle.busdma_machine.specs.declared.machine.chunk.Part.TheVariants.{Of, Unmapped}
use Rattle.busdma_machine.specs.declared.tags.tag.TagLimits.{TagLimits}
use Rattle.busdma_machine.specs.Machine.Entry.{IsEntry, IsStream}
use Rattle.busdma_machine.specs.Machine.Entry.{entries_bytes, stream_entries, others_of}
use Rattle.busdma_machine.specs.Runs.{byte_count, run_of}
use Rattle.busdma_rules.specs.Segments.Pieces.{chunk_pieces, pieces_of}
use Rattle.iommu_load.specs.declared.gatherer.Gatherer.{Gatherer}
use Rattle.busdma_rules.specs.Iommu.Device.{device_chunks, load_frames}
use Rattle.iommu_load.specs.DeviceStreams.{IsInDevicePages, device_pieces, stream_frames}
use Rattle.iommu_load.specs.Gathering.{gathered_after, after_part, gathering_ended}
use Rattle.iommu_load.specs.Gathering.{ended_run, pieces_of_runs, ungathered}
use Rattle.busdma_rules.proofs.Iommu.Carrying.{ends}

-- how many bytes runs have
abbrev pub run_bytes : List Segment → ℕ
run_bytes runs = sum_by (λ r. r.len) runs

-- ---- parts after parts

pub after_append : (s : Gatherer) (xs ys : List Part) → gathered_after s (xs ++ ys)
    ≡ gathered_after (gathered_after s xs) ys
after_append s [] ys = refl
after_append s (p ∷ ps) ys = after_append (after_part s p) ps ys

pub ended_append : (s : Gatherer) (xs ys : List Part) → gathering_ended s (xs ++ ys) ≡ gathering_ended s xs
    ++ gathering_ended (gathered_after s xs) ys
ended_append s [] ys = refl
ended_append s (p ∷ ps) ys =
    ap (λ rs. option_to_list (ended_run s p) ++ rs) (ended_append (after_part s p) ps ys)
    ∙ sym (append_assoc (option_to_list (ended_run s p)) (gathering_ended (after_part s p) ps)
    (gathering_ended (gathered_after (after_part s p) ps) ys))

pub runs_append : (t : TagLimits) (xs ys : List Segment) →
    pieces_of_runs t (xs ++ ys) ≡ pieces_of_runs t xs ++ pieces_of_runs t ys
runs_append t xs ys = flat_map-append (λ (r : Segment). pieces_of t (run_of r.addr.0 r.len)) xs ys

-- ---- the pieces of the runs are those of the entries

abbrev pub run_pieces : TagLimits → Segment → List Segment
run_pieces t r = pieces_of t (run_of r.addr.0 r.len)

-- an entry's chunk is the run of its extents
entry_pieces : (t : TagLimits) (page next at : ℕ) (e : Extent) (xs : List Extent) (es : List Entry) →
    next ≡ page + length (e ∷ xs) →
    pieces_of t (run_of (4096 * page + e.pa.0 % 4096) (e.len + byte_count xs))
    ++ chunk_pieces t (device_chunks next (at + byte_count (e ∷ xs)) es)
    ≡ pieces_of t (run_of (4096 * page + e.pa.0 % 4096) (byte_count (e ∷ xs)) ++ [])
    ++ chunk_pieces t (device_chunks (page + length (e ∷ xs)) (at + byte_count (e ∷ xs)) es)
entry_pieces t page next at e xs es same =
    let begin = 4096 * page + e.pa.0 % 4096 in
    ap (λ q. pieces_of t (run_of begin (e.len + byte_count xs))
    ++ chunk_pieces t (device_chunks q (at + byte_count (e ∷ xs)) es)) same
    ∙ ap (λ bs. pieces_of t bs ++ chunk_pieces t (device_chunks (page + length (e ∷ xs)) (at + byte_count (e ∷ xs)) es))
    (ap (run_of begin) (sym (sum_by-cons (λ (x : Extent). x.len) e xs))
    ∙ sym (append-nil (run_of begin (byte_count (e ∷ xs)))))

pub gathered_pieces : (t : TagLimits) (s : Gatherer) (at : ℕ) (ps : List Part) →
    pieces_of_runs t (gathering_ended s ps) ++ run_pieces t (gathered_after s ps).run
    ≡ pieces_of t (run_of s.run.addr.0 (s.run.len + byte_count (others_of ps)))
    ++ chunk_pieces t (device_chunks (s.page + length (others_of ps)) at (stream_entries ps))
gathered_pieces t s at [] =
    let all : s.run.len ≡ s.run.len + byte_count [] = omega arith in
    ap (λ n. pieces_of t (run_of s.run.addr.0 n)) all
    ∙ sym (append-nil (pieces_of t (run_of s.run.addr.0 (s.run.len + byte_count []))))
gathered_pieces t s at (Of e true r ∷ ps) =
    let next = after_part s (Of e true r) in
    let xs = others_of ps in
    let own = run_pieces t s.run in
    let none : s.page ≡ s.page + length {A = Extent} [] = omega arith in
    let all : s.run.len ≡ s.run.len + byte_count [] = omega arith in
    let entry : Entry = record { rounded = r; parts = e ∷ xs } in
    append_assoc own (pieces_of_runs t (gathering_ended next ps)) (run_pieces t (gathered_after next ps).run)
    ∙ ap (λ ys. own ++ ys) (gathered_pieces t next (at + byte_count (e ∷ xs)) ps)
    ∙ ap (λ ys. own ++ ys)
    (entry_pieces t s.page (s.page + 1 + length xs) at e xs (stream_entries ps) (omega arith))
    ∙ ap (λ q. own ++ chunk_pieces t (device_chunks q at (entry ∷ stream_entries ps))) none
    ∙ ap (λ n. pieces_of t (run_of s.run.addr.0 n)
    ++ chunk_pieces t (device_chunks (s.page + length {A = Extent} []) at (entry ∷ stream_entries ps))) all
gathered_pieces t s at (Of e false r ∷ ps) =
    let xs = others_of ps in
    let more : s.run.len + e.len + byte_count xs ≡ s.run.len + byte_count (e ∷ xs) =
    omega (arith, sum_by-cons (λ (x : Extent). x.len) e xs) in
    let next : s.page + 1 + length xs ≡ s.page + length (e ∷ xs) = omega arith in
    gathered_pieces t (after_part s (Of e false r)) at ps
    ∙ ap (λ n. pieces_of t (run_of s.run.addr.0 n)
    ++ chunk_pieces t (device_chunks (s.page + 1 + length xs) at (stream_entries ps))) more
    ∙ ap (λ q. pieces_of t (run_of s.run.addr.0 (s.run.len + byte_count (e ∷ xs)))
    ++ chunk_pieces t (device_chunks q at (stream_entries ps))) next
gathered_pieces t s at (Unmapped n ∷ ps) = gathered_pieces t s at ps

-- ---- pages, bytes and ends

frames_long : (xs : List Extent) (fs : List ℕ) →
    length (map (λ x. x.pa.0 / 4096) xs ++ fs) ≡ length xs + length fs
frames_long xs fs =
    length-append (map (λ x. x.pa.0 / 4096) xs) fs
    ∙ ap (λ n. n + length fs) (length-map xs (λ (x : Extent). x.pa.0 / 4096))

pub after_page : (s : Gatherer) (ps : List Part) →
    (gathered_after s ps).page ≡ s.page + length (others_of ps) + length (stream_frames ps)
after_page s [] = omega arith
after_page s (Of e true r ∷ ps) =
    omega (
      arith,
      after_page (after_part s (Of e true r)) ps,
      frames_long (e ∷ others_of ps) (load_frames (stream_entries ps)),
    )
after_page s (Of e false r ∷ ps) = omega (arith, after_page (after_part s (Of e false r)) ps)
after_page s (Unmapped n ∷ ps) = after_page s ps

after_bytes : (s : Gatherer) (ps : List Part) →
    run_bytes (gathering_ended s ps) + (gathered_after s ps).run.len
    ≡ s.run.len + byte_count (others_of ps) + entries_bytes (stream_entries ps)
after_bytes s [] = omega arith
after_bytes s (Of e true r ∷ ps) =
    omega (
      arith,
      after_bytes (after_part s (Of e true r)) ps,
      sum_by-cons (λ (x : Segment). x.len) s.run (gathering_ended (after_part s (Of e true r)) ps),
      sum_by-cons (λ (x : Extent). x.len) e (others_of ps),
      sum_by-cons (λ (x : Entry). byte_count x.parts)
          (record { rounded = r; parts = e ∷ others_of ps }) (stream_entries ps),
    )
after_bytes s (Of e false r ∷ ps) =
    omega (
      arith,
      after_bytes (after_part s (Of e false r)) ps,
      sum_by-cons (λ (x : Extent). x.len) e (others_of ps),
    )
after_bytes s (Unmapped n ∷ ps) = after_bytes s ps

-- a run ends within its pages
after_ends : (s : Gatherer) (ps : List Part) → AllByRecursion IsEntry (stream_entries ps) →
    s.run.addr.0 + s.run.len + byte_count (others_of ps) ≤ 4096 * (s.page + length (others_of ps)) →
    (gathered_after s ps).run.addr.0 + (gathered_after s ps).run.len ≤ 4096 * (gathered_after s ps).page
after_ends s [] all h = omega arith
after_ends s (Of e true r ∷ ps) all h =
    let own = ends s.page (e ∷ others_of ps) all.0.extents all.0.joined in
    after_ends (after_part s (Of e true r)) ps all.1
    (omega (arith, own, sum_by-cons (λ (x : Extent). x.len) e (others_of ps)))
after_ends s (Of e false r ∷ ps) all h =
    after_ends (after_part s (Of e false r)) ps all
    (omega (arith, h, sum_by-cons (λ (x : Extent). x.len) e (others_of ps)))
after_ends s (Unmapped n ∷ ps) all h = after_ends s ps all h

-- ---- what holds of a stream

pub stream_pieces : (t : TagLimits) (first : ℕ) (ps : List Part) → IsStream ps →
    pieces_of_runs t (gathering_ended (ungathered first) ps) ++ run_pieces t (gathered_after (ungathered first) ps).run
    ≡ device_pieces t first ps
stream_pieces t first ps h =
    let front : first + length {A = Extent} [] ≡ first = omega arith in
    gathered_pieces t (ungathered first) 0 ps
    ∙ (ap (λ (xs : List Extent). pieces_of t (run_of 0 (0 + byte_count xs))
    ++ chunk_pieces t (device_chunks (first + length xs) 0 (stream_entries ps))) h.opens
    ∙ ap (λ q. chunk_pieces t (device_chunks q 0 (stream_entries ps))) front)

pub record Gathered (first : ℕ) (ps : List Part) : Type 0 where
  pub fits : (gathered_after (ungathered first) ps).run.addr.0 + (gathered_after (ungathered first) ps).run.len ≤ 2 ^ 64
  pub paged : (gathered_after (ungathered first) ps).page ≤ 2 ^ 52
  pub bytes : run_bytes (gathering_ended (ungathered first) ps) + (gathered_after (ungathered first) ps).run.len
      ≤ 2 ^ 20

pub gathered : (first : ℕ) (ps : List Part) → IsInDevicePages first ps → Gathered first ps
gathered first ps h =
    let s = ungathered first in
    let none = h.stream.opens in
    let pages = h.pages in
    let small = h.stream.bytes in
    let begins : s.run.addr.0 + s.run.len + byte_count (others_of ps) ≤ 4096 * (s.page + length (others_of ps)) =
    omega (arith, ap byte_count none) in
    let paged : (gathered_after s ps).page ≤ 2 ^ 52 = omega (arith, after_page s ps, ap length none, pages) in
    record {
      fits = omega (arith, after_ends s ps h.stream.entries begins, paged);
      paged = paged;
      bytes = omega (arith, after_bytes s ps, ap byte_count none, small);
    }
