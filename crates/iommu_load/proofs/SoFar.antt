-- What is built of the runs of a stream so far.
use Rattle.std.proofs.Common.{◌≡◌, ◌+◌, ◌≤◌, ℕ, Bool, false, List, [], ◌∷◌, ◌++◌, length, min, ap, sym, ◌∙◌, arith}
use Rattle.std.proofs.Common.{append-nil, length-append}
use Rattle.std.specs.Prelude.{Option, Some}
use Rattle.std.specs.Option.{option_to_list}
use Rattle.busdma_machine.specs.declared.machine.address.Segment.{Segment}
use Rattle.busdma_machine.specs.declared.machine.chunk.Part.{Part}
use Rattle.busdma_machine.specs.declared.tags.tag.TagLimits.{TagLimits}
use Rattle.busdma_machine.specs.Machine.Entry.{IsStream}
use Rattle.busdma_rules.specs.Segments.Built.{IsFew}
use Rattle.segment_build.proofs.Cuts.{cut_shorter, one_segmentation}
use Rattle.segment_build.proofs.MorePieces.{still_many_with}
use Rattle.iommu_load.specs.declared.gatherer.Gatherer.{Gatherer}
use Rattle.iommu_load.specs.DeviceStreams.{device_pieces}
use Rattle.iommu_load.specs.Gathering.{AreSoFar, gathered_after, gathering_ended}
use Rattle.iommu_load.specs.Gathering.{ended_run, pieces_of_runs, ungathered}
use Rattle.iommu_load.proofs.Gathering.{run_pieces, runs_append, stream_pieces}
use Rattle.iommu_load.proofs.NextPart.{IsNext}

-- there are no more segments than pieces
pub few_shorter : (t : TagLimits) (pieces segs : List Segment) → IsFew t pieces segs → length segs ≤ length pieces
few_shorter t pieces segs h = omega (arith, ap length (one_segmentation t segs pieces h.0), cut_shorter t pieces)

-- a list that has room for the pieces before and for those of a run has room for the run
pub run_fits : (t : TagLimits) (pieces segs : List Segment) (o : Option Segment) (run : Segment) (most room : ℕ) →
    IsFew t pieces segs → o ≡ Some run →
    min (length (pieces ++ pieces_of_runs t (option_to_list o))) most ≤ room →
    min (length segs + length (run_pieces t run)) most ≤ room
run_fits t pieces segs o run most room few is fits =
    omega (
      arith,
      fits,
      few_shorter t pieces segs few,
      ap (λ (x : Option Segment). length (pieces ++ pieces_of_runs t (option_to_list x))) is,
      length-append pieces (run_pieces t run ++ []),
      ap length (append-nil (run_pieces t run)),
    )

-- segments that are too many stay so
pub stays_many : (t : TagLimits) (pieces more segs : List Segment) (few : Bool) → few ≡ false →
    AreSoFar t pieces segs few → AreSoFar t (pieces ++ more) segs few
stays_many t pieces more segs few e h =
    record { segments_are = λ x. absurd (cc); too_many = λ _. still_many_with t pieces more (h.too_many e) }

-- the pieces of the runs that have ended, with the next part
pub next_pieces : (t : TagLimits) (first : ℕ) (ps : List Part) (p : Part) (s : Gatherer) (o : Option Segment) →
    IsNext first ps p → s ≡ gathered_after (ungathered first) ps → o ≡ ended_run s p →
    pieces_of_runs t (gathering_ended (ungathered first) ps) ++ pieces_of_runs t (option_to_list o)
    ≡ pieces_of_runs t (gathering_ended (ungathered first) (ps ++ p ∷ []))
next_pieces t first ps p s o h is e =
    let u = ungathered first in
    let ran = option_to_list (ended_run (gathered_after u ps) p) in
    ap (λ (x : Option Segment). pieces_of_runs t (gathering_ended u ps) ++ pieces_of_runs t (option_to_list x))
    (e ∙ ap (λ (g : Gatherer). ended_run g p) is)
    ∙ (sym (runs_append t (gathering_ended u ps) ran) ∙ ap (pieces_of_runs t) (sym h.ended_are))

-- they are no more than those of the stream so far
pub next_few : (t : TagLimits) (first : ℕ) (ps : List Part) → IsStream ps →
    length (pieces_of_runs t (gathering_ended (ungathered first) ps)) ≤ length (device_pieces t first ps)
next_few t first ps h =
    omega (
      arith,
      ap length (stream_pieces t first ps h),
      length-append (pieces_of_runs t (gathering_ended (ungathered first) ps))
          (run_pieces t (gathered_after (ungathered first) ps).run),
    )

-- the pieces of a stream, with its last run
pub last_pieces : (t : TagLimits) (first : ℕ) (ps : List Part) (s : Gatherer) → IsStream ps →
    s ≡ gathered_after (ungathered first) ps →
    pieces_of_runs t (gathering_ended (ungathered first) ps) ++ (run_pieces t s.run ++ []) ≡ device_pieces t first ps
last_pieces t first ps s h is =
    ap (λ ys. pieces_of_runs t (gathering_ended (ungathered first) ps) ++ ys) (append-nil (run_pieces t s.run))
    ∙ (ap (λ (g : Gatherer). pieces_of_runs t (gathering_ended (ungathered first) ps) ++ run_pieces t g.run) is
    ∙ stream_pieces t first ps h)
