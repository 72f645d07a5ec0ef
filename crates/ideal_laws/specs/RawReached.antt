-- What a raw access that is not refused reaches.
use Rattle.std.specs.Prelude.{◌≡◌, ℕ, Option, Some, None, slice_get}
use Rattle.std.specs.FinMap.{get}
use Rattle.busdma_machine.specs.declared.report.ReportName.{ReportName}
use Rattle.busdma_rules.specs.declared.position.Position.{Position}
use Rattle.busdma_rules.specs.Iommu.Space.{translated}
use Rattle.busdma_rules.specs.Segments.Segmentation.{segment_bytes}
use Rattle.ideal_lane.specs.State.{LaneState, LaneMap}
use Rattle.ideal_lane.specs.Unloads.{segments_in}
use Rattle.ideal_wire.specs.Centre.{IsAt}

-- a device address is that of a byte of one of the tag's loads, the address leads to that byte, and its position allows
-- the access
pub record IsJudgedByte (l : LaneState) (t a : ℕ) (refusal : Position → Option ReportName) : Type 0 where
  pub by_map : ℕ
  pub own : LaneMap
  pub there : get l.maps by_map ≡ Some own
  pub tag : own.tag ≡ t
  pub place : ℕ
  pub position : Position
  pub at : IsAt l.loans by_map place position
  pub byte : slice_get (segment_bytes (segments_in own.stage)) place ≡ Some a
  pub lands : translated (l.spaces t) a ≡ Some position.pa
  pub allowed : refusal position ≡ None
