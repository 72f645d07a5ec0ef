-- What a load takes and builds in the device pages of an IOMMU tag.
use Rattle.std.specs.Prelude.{◌≡◌, ℕ, ◌≤◌, ◌==◌, List, length, Option, Some, if◌then◌else◌}
use Rattle.busdma_machine.specs.declared.machine.address.Segment.{Segment}
use Rattle.busdma_machine.specs.declared.machine.chunk.Entry.{Entry}
use Rattle.busdma_machine.specs.declared.tags.tag.TagLimits.{TagLimits}
use Rattle.busdma_rules.specs.Iommu.Device.{device_chunks}
use Rattle.busdma_rules.specs.Iommu.Space.{Space, entered, first_free}
use Rattle.busdma_rules.specs.Segments.Pieces.{chunk_pieces}
use Rattle.busdma_rules.specs.Segments.Segmentation.{segmentation}

-- the first device page of a load that touches so many frames, or 0 if it touches none; there is none if no run is free
-- for them
abbrev pub page_for : Space → ℕ → Option ℕ
page_for s k = if k == 0 then Some 0 else first_free s k

-- the address space after these frames got the first free run; it is unchanged if there are no frames
abbrev pub with_frames : List ℕ → Space → Space
with_frames frames s = if length frames == 0 then s else entered (first_free s (length frames)) frames s

-- the segments of these entries in the device pages from `first` on
abbrev pub device_segments : TagLimits → ℕ → List Entry → List Segment
device_segments t first es = segmentation t (chunk_pieces t (device_chunks first 0 es))

-- the segments are those of these entries in the device pages from `first` on, and few enough for the tag
pub record AreInDevicePages (t : TagLimits) (first : ℕ) (es : List Entry) (segments : List Segment) : Type 0 where
  pub are : segments ≡ device_segments t first es
  pub few : length segments ≤ t.nsegments
