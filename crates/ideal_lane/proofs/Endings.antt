-- How a load that has its pages ends: with its segments, or with too many.
use Rattle.std.specs.Prelude.{ℕ, Bool, List, length, nat_le}
use Rattle.busdma_base.specs.declared.journals.answer.Answer.TheVariants.{Segments, Refused}
use Rattle.busdma_machine.specs.declared.report.Errno.TheVariants.{EFBIG}
use Rattle.busdma_machine.specs.declared.machine.address.Segment.{Segment}
use Rattle.busdma_machine.specs.declared.machine.chunk.Chunk.{Chunk}
use Rattle.busdma_machine.specs.Bounce.AccountStep.{as_pages}
use Rattle.busdma_rules.specs.Segments.Building.{tag_placed, placed_pieces}
use Rattle.busdma_rules.specs.Segments.Chunks.{bounced_of}
use Rattle.busdma_rules.specs.Segments.Segmentation.{segmentation}
use Rattle.ideal_lane.specs.State.{LaneState, LaneMap}
use Rattle.ideal_lane.specs.Loads.{Asked, limits_of, loaded, unpaged}
use Rattle.ideal_lane.specs.Outcomes.{Outcome}

module _ (l : LaneState) (m : ℕ) (o : LaneMap) (at : ℕ) (x : Asked) (chunks : List Chunk) (pages : List ℕ) where
  abbrev pub segments_of : List Segment
  segments_of = segmentation (limits_of l o) (placed_pieces (limits_of l o) chunks (as_pages pages))

  abbrev pub bounced_in : List Chunk
  bounced_in = bounced_of (tag_placed (limits_of l o) chunks (as_pages pages))

  abbrev pub fits : Bool
  fits = nat_le (length segments_of) (limits_of l o).nsegments

  abbrev pub fitting : Outcome
  fitting = record {
    lane = loaded m o at x (tag_placed (limits_of l o) chunks (as_pages pages)) segments_of pages l;
    answer = Segments segments_of;
  }

  abbrev pub too_big : Outcome
  too_big = record { lane = unpaged m o pages l; answer = Refused EFBIG }
