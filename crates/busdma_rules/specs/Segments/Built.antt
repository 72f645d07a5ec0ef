-- Whether the segments of pieces are too many for the tag.
use Rattle.std.specs.Prelude.{◌<◌, ◌≤◌, List, length}
use Rattle.busdma_machine.specs.declared.machine.address.Segment.{Segment}
use Rattle.busdma_machine.specs.declared.tags.tag.TagLimits.{TagLimits}
use Rattle.busdma_rules.specs.Segments.Segmentation.{IsSegmentation}

-- these are the segments of the pieces, and they are no more than the tag allows
abbrev pub IsFew : TagLimits → List Segment → List Segment → Type 0
IsFew t pieces segments = IsSegmentation t segments pieces × (length segments ≤ t.nsegments)

-- the pieces have more segments than the tag allows
pub record AreTooMany (t : TagLimits) (pieces : List Segment) : Type 0 where
  pub segments : List Segment
  pub are : IsSegmentation t segments pieces
  pub many : t.nsegments < length segments
