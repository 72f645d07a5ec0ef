-- Where the loads of IOMMU tags' maps are in their tags' address spaces.
use Rattle.std.specs.Prelude.{◌≡◌, ℕ, ◌/◌, ◌≤◌, true, List, length, map, Some}
use Rattle.std.specs.FinMap.{get}
use Rattle.std.specs.List.{AllByRecursion, Contains}
use Rattle.busdma_machine.specs.declared.machine.address.Segment.{Segment}
use Rattle.busdma_machine.specs.Machine.Wire.{buses}
use Rattle.busdma_rules.specs.Iommu.Space.{DeviceRun, Space, has_page, translated}
use Rattle.busdma_rules.specs.Segments.Segmentation.{segment_bytes}
use Rattle.ideal_lane.specs.Loads.{is_device}
use Rattle.ideal_lane.specs.Outcomes.{is_loaded}
use Rattle.ideal_lane.specs.State.{LaneState, LaneMap}
use Rattle.ideal_lane.specs.Unloads.{first_of, segments_in}
use Rattle.ideal_wire.specs.Traces.{traces_of}

-- a live run begins at the page of the first of these segments, and has the pages of all their bytes
pub record HasRun (s : Space) (segments : List Segment) : Type 0 where
  pub run : DeviceRun
  pub live : Contains s.runs run
  pub first : first_of segments ≡ run.first
  pub within : AllByRecursion (λ a. has_page (a / 4096) run ≡ true) (segment_bytes segments)

-- the load of a map is in a live run of its tag, if it has a byte; and what the device finds at the bytes of its
-- segments are its bytes, in order
pub record IsMapped (l : LaneState) (m : ℕ) (o : LaneMap) : Type 0 where
  pub run : 1 ≤ length (segments_in o.stage) → HasRun (l.spaces o.tag) (segments_in o.stage)
  pub found : map (translated (l.spaces o.tag)) (segment_bytes (segments_in o.stage))
      ≡ map (λ a. Some a) (buses (traces_of l m))

-- each load of an IOMMU tag's map is in a live run of its tag, and no two loads of a tag are in one run
pub record AreMapped (l : LaneState) : Type 0 where
  pub each : (m : ℕ) (o : LaneMap) → get l.maps m ≡ Some o → is_device l o ≡ true → is_loaded o.stage ≡ true →
      IsMapped l m o
  pub alone : (m n : ℕ) (o q : LaneMap) → get l.maps m ≡ Some o → get l.maps n ≡ Some q → is_device l o ≡ true →
      o.tag ≡ q.tag → 1 ≤ length (segments_in o.stage) → 1 ≤ length (segments_in q.stage) →
      first_of (segments_in o.stage) ≡ first_of (segments_in q.stage) → m ≡ n
