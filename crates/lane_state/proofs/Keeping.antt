-- What a change of one part of a driver's holdings leaves as it was.
use Rattle.std.proofs.Common.{◌≡◌, ℕ, true, false, Option, Some, None, is_some, OnSome, refl, ap, subst}
use Rattle.std.specs.Option.{option_map}
use Rattle.lane_state.specs.declared.kept.KeptLoad.{KeptLoad}
use Rattle.dma_map.specs.declared.state.MapState.TheVariants as state
use Rattle.dma_map.specs.MapView as held
use Rattle.lane_state.specs.declared.holdings.Holdings.{Holdings}
use Rattle.phys_memory.specs.Memory.{wire}
use Rattle.ideal_lane.specs.Outcomes.{is_idle, is_loaded}
use Rattle.ideal_lane.specs.State.{Stage, Idle, Waiting, Loaded, Returning}
use Rattle.lane_state.specs.declared.kept.KeptMap.{KeptMap}
use Rattle.lane_state.specs.Covered.{has_load, is_idle_map, is_covered_returning, is_tried, lends_pages}
use Rattle.lane_state.specs.Kept.{device_of, no_device, due_of, map_of, kept_stage}
use Rattle.lane_state.specs.Changes.{KeepsButTags, KeepsBytes}
use Rattle.lane_state.specs.Held.{devices_of}

-- nothing changed
pub bytes-same : (h : Holdings) → KeepsBytes h h
bytes-same h = record { own = refl; pages = λ m. refl }

-- a change of the tags only leaves all bytes
pub tags-bytes : (h k : Holdings) → KeepsButTags h k → KeepsBytes h k
tags-bytes h k rest = record {
  own = ap (λ x. wire x.memory) rest.most.memory;
  pages = λ m. ap (λ t. (devices_of t.map m).pages) rest.maps;
}

-- what holds of a value that is there
pub on-some : {T P : Type 0} (r : Option T) (x : T) → r ≡ Some x → OnSome r P → P
on-some {T} {P} r x is h = let Q : Option T → Type 0 = λ o. OnSome o P in subst Q is h

-- what is known of an idle map
pub record IsIdleMap (o : KeptMap) : Type 0 where
  pub unheld : device_of (Some o) ≡ no_device
  pub unloaded : has_load (Some o) ≡ false
  pub unlent : lends_pages (Some o) ≡ false
  pub still : is_covered_returning (Some o) ≡ false
  pub tried : is_tried (Some o) ≡ true
  pub undue : due_of o ≡ 0

idle-stage : (tag : ℕ) (map : held.MapView KeptLoad) (s : held.HeldStage KeptLoad) → map.stage ≡ s →
    is_idle (kept_stage s) ≡ true → IsIdleMap (record { tag = tag; map = map })
idle-stage tag map held.idle e h = rw e (record {
  unheld = refl;
  unloaded = refl;
  unlent = refl;
  still = refl;
  tried = refl;
  undue = refl;
})
idle-stage tag map (held.waiting load_at callback room) e h = absurd (cc)
idle-stage tag map (held.loaded bounced segments pages) e h = absurd (cc)
idle-stage tag map (held.lent bounced segments frames) e h = absurd (cc)
idle-stage tag map held.returning e h = absurd (cc)

pub idle-map : (o : KeptMap) → is_idle (map_of o).stage ≡ true → IsIdleMap o
idle-map o h = idle-stage o.tag o.map o.map.stage refl h

-- if there is an idle map, it is known to be idle
pub idle-there : (o : Option KeptMap) → is_idle_map o ≡ true → (x : KeptMap) × (o ≡ Some x) × IsIdleMap x
idle-there None h = absurd (cc)
idle-there (Some x) h = (x, refl, idle-map x h)

-- an idle map is not loaded
pub idle-unloaded : (o : Option KeptMap) → is_idle_map o ≡ true → has_load o ≡ false
idle-unloaded None h = absurd (cc)
idle-unloaded (Some x) h = (idle-map x h).unloaded

-- if the image of an optional value is `None`, so is the value
pub told-none : {X Y : Type 0} (f : X → Y) (o : Option X) → option_map f o ≡ None → o ≡ None
told-none f None h = refl
told-none f (Some x) h = absurd (cc)

pub told-some : {X Y : Type 0} (f : X → Y) (o : Option X) (y : Y) → option_map f o ≡ Some y →
    (x : X) × (o ≡ Some x) × (f x ≡ y)
told-some f None y h = absurd (cc)
told-some f (Some x) y h = (x, refl, (let same : f x ≡ y = cc in same))

-- the stage of a map in the state Idle
pub state-idle : (s : held.HeldStage KeptLoad) → held.state_of s ≡ state.Idle →
    is_idle (kept_stage s) ≡ true
state-idle held.idle h = refl
state-idle (held.waiting load_at callback room) h = absurd (cc)
state-idle (held.loaded bounced segments pages) h = absurd (cc)
state-idle (held.lent bounced segments frames) h = absurd (cc)
state-idle held.returning h = absurd (cc)

pub state-busy : (s : held.HeldStage KeptLoad) → ¬ (held.state_of s ≡ state.Idle) →
    is_idle (kept_stage s) ≡ false
state-busy held.idle h = absurd (h refl)
state-busy (held.waiting load_at callback room) h = refl
state-busy (held.loaded bounced segments pages) h = refl
state-busy (held.lent bounced segments frames) h = refl
state-busy held.returning h = refl

pub state-loaded : (s : held.HeldStage KeptLoad) → held.state_of s ≡ state.Loaded →
    is_loaded (kept_stage s) ≡ true
state-loaded held.idle h = absurd (cc)
state-loaded (held.waiting load_at callback room) h = absurd (cc)
state-loaded (held.loaded bounced segments pages) h = refl
state-loaded (held.lent bounced segments frames) h = refl
state-loaded held.returning h = absurd (cc)

pub state-unloaded : (s : held.HeldStage KeptLoad) → ¬ (held.state_of s ≡ state.Loaded) →
    is_loaded (kept_stage s) ≡ false
state-unloaded held.idle h = refl
state-unloaded (held.waiting load_at callback room) h = refl
state-unloaded (held.loaded bounced segments pages) h = absurd (h refl)
state-unloaded (held.lent bounced segments frames) h = absurd (h refl)
state-unloaded held.returning h = refl

pub some-there : {X : Type 0} (o : Option X) → is_some o ≡ true → (x : X) × (o ≡ Some x)
some-there None h = absurd (cc)
some-there (Some x) h = (x, refl)

-- a map whose stage is idle is in the state Idle
pub idle-state : (s : held.HeldStage KeptLoad) → is_idle (kept_stage s) ≡ true →
    held.state_of s ≡ state.Idle
idle-state held.idle h = refl
idle-state (held.waiting load_at callback room) h = absurd (cc)
idle-state (held.loaded bounced segments pages) h = absurd (cc)
idle-state (held.lent bounced segments frames) h = absurd (cc)
idle-state held.returning h = absurd (cc)

pub idle-stands : (s : Stage) → is_idle s ≡ true → s ≡ Idle
idle-stands Idle h = refl
idle-stands (Waiting w) h = absurd (cc)
idle-stands (Loaded bounced segments pages) h = absurd (cc)
idle-stands Returning h = absurd (cc)
