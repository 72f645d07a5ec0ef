-- `IsWired` and `HasSmallLoads` have at most one proof each, so that a lane can keep them.
use Rattle.std.specs.Prelude.{ℕ, List, [], ◌∷◌}
use Rattle.std.specs.Coded.{×_prop, Unit-prop}
use mathlib.Core.List.{is_set}
use denote.Struct.Props.{props}
use Rattle.busdma_rules.specs.Iommu.Space.{AreSpaceRuns, DeviceRun, IsRunIn, Space, run_end}
use Rattle.ideal_lane.specs.State.{LaneState}
use Rattle.ideal_wire.specs.OneProof.{AreLaid-prop, IsApart-prop, IsFaithful-prop, IsInMachine-prop}
use Rattle.ideal_wire.specs.Spaced.{AreSpaced}
use Rattle.lane_state.specs.declared.holdings.Holdings.{Holdings}
use Rattle.lane_state.specs.SmallLoads.{HasSmallLoads}
use Rattle.lane_state.specs.Wire.{IsWired}

DeviceRun-set : IsSet DeviceRun
DeviceRun-set = hlevel (props, is_set)

Space-set : IsSet Space
Space-set = hlevel (props, is_set, DeviceRun-set)

IsRunIn-prop : (low high : ℕ) (r : DeviceRun) → IsProp (IsRunIn low high r)
IsRunIn-prop low high r = hlevel (props)

AreRuns-prop : (low high : ℕ) (rs : List DeviceRun) → IsProp (AreSpaceRuns low high rs)
AreRuns-prop low high [] = Unit-prop
AreRuns-prop low high (r ∷ rs) = ×_prop (IsRunIn-prop low high r) (AreRuns-prop (run_end r) high rs)

AreSpaced-prop : (l : LaneState) → IsProp (AreSpaced l)
AreSpaced-prop l = hlevel (props, AreRuns-prop, Space-set)

pub IsWired-prop : (h : Holdings) → IsProp (IsWired h)
IsWired-prop h = hlevel (props, AreLaid-prop, IsApart-prop, IsFaithful-prop, IsInMachine-prop, AreSpaced-prop)

pub HasSmallLoads-prop : (h : Holdings) → IsProp (HasSmallLoads h)
HasSmallLoads-prop h = hlevel (props)
