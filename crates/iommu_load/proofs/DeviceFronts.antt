-- A front of a stream needs no more than the stream.
use Rattle.std.proofs.Common.{◌≡◌, ℕ, ◌+◌, ◌≤◌, List, ◌++◌, length, ap, sym, ◌∙◌, arith, append_assoc, length-append}
use Rattle.busdma_machine.specs.declared.machine.chunk.Part.{Part}
use Rattle.busdma_machine.specs.declared.tags.tag.TagLimits.{TagLimits}
use Rattle.busdma_machine.specs.Machine.Entry.{IsStream, stream_entries, others_of}
use Rattle.busdma_machine.specs.Runs.{byte_count, run_of}
use Rattle.busdma_machine.specs.Tags.Tag.{IsEffective}
use Rattle.busdma_rules.specs.Segments.Pieces.{chunk_pieces, pieces_of}
use Rattle.segment_build.proofs.FrontsAsk.{IsStream-front}
use Rattle.segment_build.proofs.LongerRuns.{run_longer}
use Rattle.busdma_rules.specs.Iommu.Device.{device_chunks}
use Rattle.iommu_load.specs.DeviceStreams.{DeviceFrontsAskNoMore, HasDeviceRoom, IsInDevicePages, device_pieces}
use Rattle.iommu_load.specs.DeviceStreams.{stream_frames}
use Rattle.iommu_load.specs.Gathering.{gathered_after, gathering_ended, pieces_of_runs, ungathered}
use Rattle.iommu_load.proofs.Gathering.{after_append, after_page, ended_append, gathered_pieces, run_pieces}
use Rattle.iommu_load.proofs.Gathering.{runs_append, stream_pieces}

-- a front takes no more pages
front_frames : (first : ℕ) (xs ys : List Part) → IsStream (xs ++ ys) →
    length (stream_frames xs) ≤ length (stream_frames (xs ++ ys))
front_frames first xs ys h =
    let s = ungathered first in
    omega (
      arith,
      after_page s xs,
      after_page s (xs ++ ys),
      ap length h.opens,
      after_page (gathered_after s xs) ys,
      ap (λ (g : _). g.page) (after_append s xs ys),
    )

pub IsInDevicePages-front : (first : ℕ) (xs ys : List Part) → IsInDevicePages first (xs ++ ys) →
    IsInDevicePages first xs
IsInDevicePages-front first xs ys h =
    let pages = h.pages in
    record {
      stream = IsStream-front xs ys h.stream;
      pages = omega (arith, front_frames first xs ys h.stream);
    }

-- the pieces of a stream, if those of a front are known
whole_pieces : (t : TagLimits) (first : ℕ) (xs ys : List Part) → IsStream (xs ++ ys) →
    device_pieces t first (xs ++ ys)
    ≡ pieces_of_runs t (gathering_ended (ungathered first) xs)
    ++ (pieces_of t (run_of (gathered_after (ungathered first) xs).run.addr.0
    ((gathered_after (ungathered first) xs).run.len + byte_count (others_of ys)))
    ++ chunk_pieces t (device_chunks ((gathered_after (ungathered first) xs).page + length (others_of ys)) 0
    (stream_entries ys)))
whole_pieces t first xs ys h =
    let u = ungathered first in
    let s = gathered_after u xs in
    sym (stream_pieces t first (xs ++ ys) h)
    ∙ (ap (λ rs. pieces_of_runs t rs ++ run_pieces t (gathered_after u (xs ++ ys)).run) (ended_append u xs ys)
    ∙ (ap (λ g. pieces_of_runs t (gathering_ended u xs ++ gathering_ended s ys) ++ run_pieces t g.run)
    (after_append u xs ys)
    ∙ (ap (λ ps. ps ++ run_pieces t (gathered_after s ys).run)
    (runs_append t (gathering_ended u xs) (gathering_ended s ys))
    ∙ (append_assoc (pieces_of_runs t (gathering_ended u xs)) (pieces_of_runs t (gathering_ended s ys))
    (run_pieces t (gathered_after s ys).run)
    ∙ ap (λ ps. pieces_of_runs t (gathering_ended u xs) ++ ps) (gathered_pieces t s 0 ys)))))

-- a front has no more pieces
front_pieces : (t : TagLimits) (first : ℕ) (xs ys : List Part) → IsEffective t → IsStream (xs ++ ys) →
    length (device_pieces t first xs) ≤ length (device_pieces t first (xs ++ ys))
front_pieces t first xs ys eff h =
    let s = gathered_after (ungathered first) xs in
    let before = pieces_of_runs t (gathering_ended (ungathered first) xs) in
    let longer = pieces_of t (run_of s.run.addr.0 (s.run.len + byte_count (others_of ys))) in
    let later = chunk_pieces t (device_chunks (s.page + length (others_of ys)) 0 (stream_entries ys)) in
    omega (
      arith,
      ap length (sym (stream_pieces t first xs (IsStream-front xs ys h))),
      length-append before (run_pieces t s.run),
      ap length (whole_pieces t first xs ys h),
      length-append before (longer ++ later),
      length-append longer later,
      run_longer t s.run.addr.0 s.run.len (s.run.len + byte_count (others_of ys)) eff.maxsegsz (omega arith),
    )

pub fronts_ask : (t : TagLimits) (first : ℕ) → IsEffective t → DeviceFrontsAskNoMore t first
fronts_ask t first eff xs ys h =
    record {
      stream = IsStream-front xs ys h;
      frames = front_frames first xs ys h;
      pieces = front_pieces t first xs ys eff h;
    }

pub HasDeviceRoom-front : (t : TagLimits) (first room : ℕ) → DeviceFrontsAskNoMore t first →
    (xs ys : List Part) → HasDeviceRoom t first room (xs ++ ys) → HasDeviceRoom t first room xs
HasDeviceRoom-front t first room fronts xs ys h =
    let pieces = (fronts xs ys h.paged.stream).pieces in
    let fits = h.fits in
    record { paged = IsInDevicePages-front first xs ys h.paged; fits = omega arith }
