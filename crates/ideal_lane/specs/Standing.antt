-- The invariant of a driver: what holds of its state at each of its turns, whatever the account.
use Rattle.std.specs.Prelude.{◌≡◌, ℕ, ◌*◌, ◌<◌, ◌≤◌, Bool, true, not, ◌||◌, [], Some, None}
use Rattle.std.specs.Ordering.{nat_cmp}
use Rattle.std.specs.FinMap.{FinMap, get, contains_key}
use Rattle.busdma_machine.specs.declared.bounce.hold.HubReply.{HubReply}
use Rattle.ideal_lane.specs.State.{LaneState, LaneTag, LaneMap, LaneMemory, LaneRing, Stage, Idle, Waiting, Loaded}
use Rattle.ideal_lane.specs.State.{Returning}
use Rattle.ideal_lane.specs.Asking.{Asking, Gives, Asks}
use Rattle.ideal_lane.specs.Maps.{bounces}
use Rattle.ideal_lane.specs.Turns.{Turned}

-- a map at this stage holds no page, and waits for none
abbrev pub IsPageless : Stage → Type 0
IsPageless Idle = Unit {0}
IsPageless (Waiting w) = ⊥
IsPageless (Loaded bounced segments pages) = pages ≡ []
IsPageless Returning = Unit {0}

-- no byte of a load bounces, of the tag's map at this place: the map is a memory's, or the tag could not bounce
abbrev pub is_direct : ℕ → FinMap nat_cmp LaneMemory → ℕ → LaneTag → Bool
is_direct maxmem mems k t = contains_key mems k || not (bounces maxmem t)

-- the invariant of a map: its tag exists; it has no zone if it is a memory's or its tag is an IOMMU tag; and if it has
-- no zone, no byte of its loads bounces and it has no pages
pub record StandsAt (maxmem : ℕ) (tags : FinMap nat_cmp LaneTag)
    (mems : FinMap nat_cmp LaneMemory) (k : ℕ) (o : LaneMap)
    : Type 0 where
  pub tag : LaneTag
  pub there : get tags o.tag ≡ Some tag
  pub memory : contains_key mems k ≡ true → o.zone ≡ None
  pub device : tag.device ≡ true → o.zone ≡ None
  pub direct : o.zone ≡ None → is_direct maxmem mems k tag ≡ true
  pub pageless : o.zone ≡ None → IsPageless o.stage

-- the invariant of a ring: its memory was made before `place`; while the memory exists, it is coherent and has the
-- bytes of all slots; without it, its map does not exist either; and the head is one of the slots
pub record IsRing (place : ℕ) (maps : FinMap nat_cmp LaneMap) (mems : FinMap nat_cmp LaneMemory) (r : LaneRing)
    : Type 0 where
  pub made : r.mem < place
  pub there : (o : LaneMap) → get maps r.mem ≡ Some o → contains_key mems r.mem ≡ true
  pub head : r.head < r.slots
  pub few : r.slots ≤ 256
  pub coherent : (x : LaneMemory) → get mems r.mem ≡ Some x → x.coherent ≡ true
  pub fits : (x : LaneMemory) → get mems r.mem ≡ Some x → 16 * r.slots ≤ x.len

-- nothing was made at this place of the script or later, and the invariant of each map and each ring holds
pub record StandsFrom (place maxmem : ℕ) (tags : FinMap nat_cmp LaneTag) (maps : FinMap nat_cmp LaneMap)
    (mems : FinMap nat_cmp LaneMemory) (rings : FinMap nat_cmp LaneRing) : Type 0 where
  pub no_tag : (k : ℕ) → place ≤ k → get tags k ≡ None
  pub no_map : (k : ℕ) → place ≤ k → get maps k ≡ None
  pub no_memory : (k : ℕ) → place ≤ k → get mems k ≡ None
  pub no_ring : (k : ℕ) → place ≤ k → get rings k ≡ None
  pub each : (k : ℕ) (o : LaneMap) → get maps k ≡ Some o → StandsAt maxmem tags mems k o
  pub ring : (k : ℕ) (r : LaneRing) → get rings k ≡ Some r → IsRing place maps mems r

-- the invariant of a driver: nothing was made yet by an operation that is not done, and the invariant of each map and
-- each ring holds
abbrev pub Stands : LaneState → Type 0
Stands l = StandsFrom l.place l.maxmem l.tags l.maps l.mems l.rings

-- a step keeps the driver's invariant, whatever the reply to its call
abbrev pub KeepsStanding : Asking Turned → Type 0
KeepsStanding (Gives t) = Stands t.lane
KeepsStanding (Asks c k) = (r : HubReply) → Stands (k r).lane
