-- When a descriptor can be posted to a ring, and what the post leaves.
use Rattle.std.specs.Prelude.{◌≡◌, ◌≤◌, ◌+◌, ℕ, true, Some}
use Rattle.std.specs.FinMap.{get}
use Rattle.busdma_rules.specs.Rings.Descriptors.{descriptor_bytes}
use Rattle.ideal_lane.specs.IdealMemory.{written}
use Rattle.ideal_lane.specs.Outcomes.{is_loaded, load_length}
use Rattle.ideal_lane.specs.Rings.{may_post, posted, slot_place}
use Rattle.ideal_lane.specs.State.{LaneMap, LaneMemory, LaneRing, LaneState}
use Rattle.ideal_lane.specs.Unloads.{segments_in}
use Rattle.ideal_wire.specs.WireStep.{place_bytes}

-- a range of a map's load may be posted to a slot of a ring: the ring and its memory exist, the map is loaded and has
-- the range, and the rules on posts allow it
pub record CanPost (l : LaneState) (k slot m off len kind : ℕ) : Type 0 where
  pub ring : LaneRing
  pub there : get l.rings k ≡ Some ring
  pub memory : LaneMemory
  pub within : get l.mems ring.mem ≡ Some memory
  pub map : LaneMap
  pub found : get l.maps m ≡ Some map
  pub loaded : is_loaded map.stage ≡ true
  pub short : off + len ≤ load_length l m
  pub may : may_post ring slot m map off len kind l ≡ true

-- the driver after a post to a ring: the slot has the bytes of the descriptor
abbrev pub after_post : (l : LaneState) → LaneRing → ℕ → LaneMap → ℕ → ℕ → ℕ → ℕ → LaneState
after_post l r slot o off len kind fill = record l {
  memory =
      written (place_bytes l (slot_place r slot) 16)
      (descriptor_bytes (posted (segments_in o.stage) off len kind fill)) l.memory;
}
