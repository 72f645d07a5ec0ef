-- Whose the live runs of address spaces are.
use Rattle.std.specs.Prelude.{◌≡◌, ℕ, ◌/◌, true, Some, slice_get}
use Rattle.std.specs.FinMap.{get}
use Rattle.std.specs.List.{Contains}
use Rattle.busdma_rules.specs.Iommu.Space.{DeviceRun}
use Rattle.busdma_rules.specs.Lending.Loans.{addresses_of, loan_of}
use Rattle.ideal_lane.specs.Outcomes.{is_loaded}
use Rattle.ideal_lane.specs.State.{LaneMap, LaneState}
use Rattle.ideal_lane.specs.Unloads.{first_of, segments_in}

-- a frame has a byte of a map's load
pub record IsFrameOf (l : LaneState) (m f : ℕ) : Type 0 where
  pub place : ℕ
  pub byte : ℕ
  pub at : slice_get (addresses_of (loan_of l.loans m).positions) place ≡ Some byte
  pub frame : byte / 4096 ≡ f

-- a run of a tag belongs to the load of a map of the tag: it begins at the page of the load's first segment, and each
-- of its frames has a byte of the load
pub record IsLoadRun (l : LaneState) (t : ℕ) (run : DeviceRun) : Type 0 where
  pub map : ℕ
  pub own : LaneMap
  pub there : get l.maps map ≡ Some own
  pub tag : own.tag ≡ t
  pub loaded : is_loaded own.stage ≡ true
  pub first : first_of (segments_in own.stage) ≡ run.first
  pub frames : (k f : ℕ) → slice_get run.frames k ≡ Some f → IsFrameOf l map f

-- each live run of a driver's tags belongs to the load of a map of its tag
abbrev pub AreLoadRuns : LaneState → Type 0
AreLoadRuns l = (t : ℕ) (run : DeviceRun) → Contains (l.spaces t).runs run → IsLoadRun l t run
