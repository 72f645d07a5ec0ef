-- The address spaces of a driver's IOMMU tags.
use Rattle.std.specs.Prelude.{◌≡◌, ℕ, ◌+◌, ◌*◌, ◌≤◌, Bool, true, false, Some}
use Rattle.std.specs.FinMap.{get}
use Rattle.std.specs.Option.{option_map_or}
use Rattle.busdma_machine.specs.declared.tags.tag.TagLimits.{TagLimits}
use Rattle.busdma_machine.specs.Tags.TagFlags.{keep_pg_offset}
use Rattle.busdma_rules.specs.Iommu.Space.{AreSpaceRuns, Space}
use Rattle.ideal_lane.specs.State.{LaneState, LaneTag, no_space}

-- a tag's address space is in order: the tag asks for no alignment and keeps no offsets, its device reaches no page
-- above lowaddr, and its live runs rise
pub record IsSpaced (t : TagLimits) (s : Space) : Type 0 where
  pub alignment : t.alignment ≡ 1
  pub flags : keep_pg_offset t.flags ≡ false
  pub reached : 4096 * s.pages ≤ t.lowaddr.0 + 1
  pub runs : AreSpaceRuns 1 s.pages s.runs

-- there is an IOMMU tag at a place
abbrev pub is_spaced : LaneState → ℕ → Bool
is_spaced l k = option_map_or (λ (t : LaneTag). t.device) (get l.tags k) false

-- the address space of each IOMMU tag is in order, and nothing else has an address space
pub record AreSpaced (l : LaneState) : Type 0 where
  pub each : (k : ℕ) (t : LaneTag) → get l.tags k ≡ Some t → t.device ≡ true → IsSpaced t.limits (l.spaces k)
  pub none : (k : ℕ) → is_spaced l k ≡ false → l.spaces k ≡ no_space
