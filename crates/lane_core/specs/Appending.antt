-- A driver whose operations are appended one by one.
use Rattle.std.specs.Prelude.{◌≡◌, ℕ, ◌+◌, ◌≤◌, ◌==◌, Bool, true, not, ◌&&◌, List, [], ◌∷◌, ◌++◌, length, IfSome}
use Rattle.std.specs.Prelude.{is_some, slice_get}
use Rattle.busdma_base.specs.declared.scenarios.script.Op.{Op}
use Rattle.busdma_base.specs.Scenarios.Buffers.{HasClusters}
use Rattle.busdma_base.specs.Scenarios.Limits.{buffer_limit, loaded_limit}
use Rattle.busdma_base.specs.Scenarios.Operations.{about, loaded_by}
use Rattle.busdma_base.specs.Scenarios.Valid.{LoadsFrom}
use Rattle.ideal_lane.specs.Scripts.{with_script}
use Rattle.ideal_lane.specs.State.{LaneState}
use Rattle.lane_core.specs.declared.lane.Lane.{Lane}
use Rattle.lane_core.specs.LaneIdeal.{ideal}
use Rattle.lane_state.specs.declared.holdings.Holdings.{Holdings}
use Rattle.lane_state.specs.SmallLoads.{loaded_once}

-- how many pages the loads of a lane's maps have or wait for
abbrev pub promised_pages : Lane → ℕ
promised_pages l = l.holdings.agenda.promised

-- the driver with one more operation at the end of its script
abbrev pub with_next : Op → LaneState → LaneState
with_next o l = with_script (l.script ++ o ∷ []) l

-- a driver is ready for another operation: its script has ended, no resend is due, and no page is still to go back; so
-- its next turn does the operation that it gets
abbrev pub is_ready : LaneState → Bool
is_ready l = (l.place == length l.script) && (not l.due && not (is_some (slice_get l.returns 0)))

-- a driver is ready for another operation, and may get this one: it loads only frames of the driver's pages, has the
-- clusters of a send and is small, and the pages that it may need, with those already promised, stay within the limit
-- of all loads
pub record MayFollow (o : Op) (l : LaneState) (promised : ℕ) : Type 0 where
  pub ready : is_ready l ≡ true
  pub bios : LoadsFrom l.pages o
  pub clusters : IfSome (about o).loads HasClusters
  pub small : loaded_once o ≤ buffer_limit
  pub few : promised ≤ loaded_limit → promised + loaded_by o ≤ loaded_limit

-- an operation may be appended to a lane's script
abbrev pub MayAppend : Op → Lane → Type 0
MayAppend o l = MayFollow o (ideal l) (promised_pages l)

-- a driver's holdings are the same, except for its script, its places and its room
pub record KeepsButScript (h k : Holdings) : Type 0 where
  pub pages : k.pages ≡ h.pages
  pub id : k.id ≡ h.id
  pub maxmem : k.maxmem ≡ h.maxmem
  pub memory : k.memory ≡ h.memory
  pub tags : k.tags.map ≡ h.tags.map
  pub maps : k.maps.map ≡ h.maps.map
  pub memories : k.memories.map ≡ h.memories.map
  pub rings : k.rings.map ≡ h.rings.map
  pub loans : k.loans ≡ h.loans
  pub due : k.due ≡ h.due
  pub shares : k.shares ≡ h.shares
  pub place : k.agenda.place ≡ h.agenda.place
  pub queue : k.agenda.queue ≡ h.agenda.queue
  pub returns : k.agenda.returns ≡ h.agenda.returns
  pub promised : k.agenda.promised ≡ h.agenda.promised
