-- Whether an operation that awaits a map cannot step, by what is there.
use Rattle.std.proofs.Common.{◌≡◌, ℕ, true, false, ◌||◌, Some, None, refl}
use Rattle.std.specs.FinMap.{get}
use Rattle.busdma_base.specs.declared.scenarios.script.Op.TheVariants.{Await}
use Rattle.lane_state.specs.declared.kept.KeptLoad.{KeptLoad}
use Rattle.dma_map.specs.declared.state.MapState.TheVariants as state
use Rattle.dma_map.specs.MapView as held
use Rattle.busdma_base.specs.Scenarios.Queues.{queue_names}
use Rattle.ideal_lane.specs.State.{LaneState, LaneMap}
use Rattle.ideal_lane.specs.Turns.{waits, waits_in}
use Rattle.lane_state.specs.Kept.{kept_stage}

module _ (l : LaneState) (m : ℕ) where
  -- the map is not there
  pub awaits-none : get l.maps m ≡ None → waits (Await m) l ≡ false
  awaits-none none = rw none refl

  -- the map is there
  pub awaits-some : (o : LaneMap) → get l.maps m ≡ Some o →
      waits (Await m) l ≡ (waits_in o.stage || queue_names m l.queue)
  awaits-some o there = rw there refl

-- whether a load waits is what the state of its map says
pub state-waits : (s : held.HeldStage KeptLoad) → held.state_of s ≡ state.Waiting →
    waits_in (kept_stage s) ≡ true
state-waits held.idle h = absurd (cc)
state-waits (held.waiting load_at callback room) h = refl
state-waits (held.loaded bounced segments pages) h = absurd (cc)
state-waits (held.lent bounced segments frames) h = absurd (cc)
state-waits held.returning h = absurd (cc)

pub state-goes : (s : held.HeldStage KeptLoad) → ¬ (held.state_of s ≡ state.Waiting) →
    waits_in (kept_stage s) ≡ false
state-goes held.idle h = refl
state-goes (held.waiting load_at callback room) h = absurd (h refl)
state-goes (held.loaded bounced segments pages) h = refl
state-goes (held.lent bounced segments frames) h = refl
state-goes held.returning h = refl
