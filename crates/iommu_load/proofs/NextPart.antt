-- What holds at the next part of a stream.
use Rattle.std.proofs.Common.{◌≡◌, ℕ, ◌+◌, ◌≤◌, ◌<◌, ◌^◌, List, [], ◌∷◌, ◌++◌, map, true, false, refl, ap, sym}
use Rattle.std.proofs.Common.{◌∙◌, subst, arith, append-nil, ◌/◌}
use Rattle.std.specs.Prelude.{Option, Some, IfSome}
use Rattle.std.specs.Option.{option_to_list}
use Rattle.std.specs.List.{AllByRecursion}
use Rattle.std.proofs.lemmas.List.Sums.{sum_by-append}
use Rattle.busdma_machine.specs.declared.machine.address.Extent.{Extent}
use Rattle.busdma_machine.specs.declared.machine.address.Segment.{Segment}
use Rattle.busdma_machine.specs.declared.machine.chunk.Entry.{Entry}
use Rattle.busdma_machine.specs.declared.machine.chunk.Part.{Part}
use Rattle.busdma_machine.specs.declared.machine.chunk.Part.TheVariants.{Of, Unmapped}
use Rattle.busdma_machine.specs.Machine.Entry.{IsEntry, IsPart, IsStream, others_of, part_bytes}
use Rattle.busdma_machine.specs.Runs.{IsExtent}
use Rattle.busdma_rules.proofs.Segments.Sound.{all_append}
use Rattle.std.specs.Iterator.{HoldsAlong, Yields}
use Rattle.segment_build.proofs.Iterating.{holds_so_far}
use Rattle.segment_build.proofs.PartByPart.{last_part}
use Rattle.iommu_load.specs.declared.gatherer.Gatherer.{Gatherer}
use Rattle.busdma_rules.specs.Iommu.Device.{load_frames}
use Rattle.iommu_load.specs.DeviceStreams.{IsInDevicePages, stream_frames}
use Rattle.iommu_load.specs.Gathering.{gathered_after, after_part}
use Rattle.iommu_load.specs.Gathering.{gathering_ended, ended_run, ungathered}
use Rattle.iommu_load.proofs.DeviceFronts.{IsInDevicePages-front}
use Rattle.iommu_load.proofs.Gathering.{after_append, ended_append, gathered, run_bytes}

-- ---- its run

pub record IsNext (first : ℕ) (ps : List Part) (p : Part) : Type 0 where
  pub part : IsPart p
  pub paged : (after_part (gathered_after (ungathered first) ps) p).page ≤ 2 ^ 52
  pub fits : (gathered_after (ungathered first) ps).run.len + part_bytes p < 2 ^ 64
  pub ended_fits : IfSome (ended_run (gathered_after (ungathered first) ps) p) (λ run. run.addr.0 + run.len ≤ 2 ^ 64)
  pub ended_are : gathering_ended (ungathered first) (ps ++ p ∷ []) ≡ gathering_ended (ungathered first) ps
      ++ option_to_list (ended_run (gathered_after (ungathered first) ps) p)
  pub after_is : gathered_after (ungathered first) (ps ++ p ∷ []) ≡ after_part (gathered_after (ungathered first) ps) p
  pub bytes : run_bytes (gathering_ended (ungathered first) ps)
      + run_bytes (option_to_list (ended_run (gathered_after (ungathered first) ps) p)) ≤ 2 ^ 20

part_small : (p : Part) → IsPart p → part_bytes p ≤ 4096
part_small (Of e o r) h = let frame = h.in_frame in omega arith
part_small (Unmapped n) h = omega arith

ended_in : (s : Gatherer) (p : Part) → s.run.addr.0 + s.run.len ≤ 2 ^ 64 →
    IfSome (ended_run s p) (λ run. run.addr.0 + run.len ≤ 2 ^ 64)
ended_in s (Of e true r) h = h
ended_in s (Of e false r) h = tt
ended_in s (Unmapped n) h = tt

pub next_is : (first : ℕ) (ps : List Part) (p : Part) → IsInDevicePages first (ps ++ p ∷ []) → IsNext first ps p
next_is first ps p h =
    let u = ungathered first in
    let s = gathered_after u ps in
    let all = gathered first (ps ++ p ∷ []) h in
    let so_far = gathered first ps (IsInDevicePages-front first ps (p ∷ []) h) in
    let bytes = so_far.bytes in
    let part = last_part ps p h.stream in
    let ran = option_to_list (ended_run s p) in
    let more : gathering_ended u (ps ++ p ∷ []) ≡ gathering_ended u ps ++ ran =
    ended_append u ps (p ∷ []) ∙ ap (λ rs. gathering_ended u ps ++ rs) (append-nil ran) in
    let next = after_append u ps (p ∷ []) in
    record {
      part = part;
      paged = subst (λ (g : Gatherer). g.page ≤ 2 ^ 52) next all.paged;
      fits = omega (arith, bytes, part_small p part);
      ended_fits = ended_in s p so_far.fits;
      ended_are = more;
      after_is = next;
      bytes =
          omega (
            arith,
            all.bytes,
            ap run_bytes more,
            sum_by-append (λ (r : Segment). r.len) (gathering_ended u ps) ran,
          );
    }

-- ---- its frame

-- the frame that a part touches
abbrev pub part_frames : Part → List ℕ
part_frames (Of e o r) = e.pa.0 / 4096 ∷ []
part_frames (Unmapped n) = []

abbrev extent_frames : List Extent → List ℕ
extent_frames xs = map (λ x. x.pa.0 / 4096) xs

frames_more : (ps : List Part) (p : Part) →
    extent_frames (others_of (ps ++ p ∷ [])) ++ stream_frames (ps ++ p ∷ [])
    ≡ (extent_frames (others_of ps) ++ stream_frames ps) ++ part_frames p
frames_more [] (Of e true r) = refl
frames_more [] (Of e false r) = refl
frames_more [] (Unmapped n) = refl
frames_more (Of e true r ∷ ps) p = ap (λ fs. e.pa.0 / 4096 ∷ fs) (frames_more ps p)
frames_more (Of e false r ∷ ps) p = ap (λ fs. e.pa.0 / 4096 ∷ fs) (frames_more ps p)
frames_more (Unmapped n ∷ ps) p = frames_more ps p

pub next_frames : (ps : List Part) (p : Part) → IsStream ps → IsStream (ps ++ p ∷ []) →
    stream_frames (ps ++ p ∷ []) ≡ stream_frames ps ++ part_frames p
next_frames ps p h k =
    ap (λ xs. extent_frames xs ++ stream_frames (ps ++ p ∷ [])) (sym k.opens)
    ∙ (frames_more ps p ∙ ap (λ xs. (extent_frames xs ++ stream_frames ps) ++ part_frames p) h.opens)

-- ---- in a loop

pub next_along : {S : Type 0} (steps : S → Option Part → S → Type 0) (first : ℕ) {p : S} (s : S) (xs : List Part)
    (t : S) (x : Part) (u : S) → s ≡ p → HoldsAlong steps p (IsInDevicePages first) → Yields steps s xs t →
    steps t (Some x) u → IsNext first xs x
next_along steps first s xs t x u e h y n =
    next_is first xs x (holds_so_far steps (IsInDevicePages first) s xs t x u e h y n)

-- ---- frames are numbered below 2^30

extents_numbered : (xs : List Extent) → AllByRecursion IsExtent xs →
    AllByRecursion (λ f. f < 2 ^ 30) (extent_frames xs)
extents_numbered [] h = tt
extents_numbered (x ∷ xs) h = let low = h.0.numbered in (omega arith, extents_numbered xs h.1)

pub frames_numbered : (es : List Entry) → AllByRecursion IsEntry es → AllByRecursion (λ f. f < 2 ^ 30) (load_frames es)
frames_numbered [] h = tt
frames_numbered (e ∷ es) h =
    all_append (λ f. f < 2 ^ 30) (extent_frames e.parts) (load_frames es) (extents_numbered e.parts h.0.extents)
    (frames_numbered es h.1)
