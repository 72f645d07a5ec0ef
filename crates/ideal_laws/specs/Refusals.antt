-- What a step that bus_dma(9) refuses, or whose load waits, leaves of its driver and of the account.
use Rattle.std.specs.Prelude.{◌≡◌, ℕ, List, length, take, drop, Option, Some, None, true, if◌then◌else◌, is_some}
use Rattle.std.specs.Prelude.{slice_get, slice_set}
use Rattle.std.specs.FinMap.{get, insert}
use Rattle.std.specs.Option.{option_map, option_map_or}
use Rattle.busdma_machine.specs.declared.bounce.zone.Grown.{Grown}
use Rattle.busdma_machine.specs.declared.bounce.zone.Waiter.{Waiter}
use Rattle.busdma_machine.specs.declared.tags.tag.TagLimits.{TagLimits}
use Rattle.busdma_machine.specs.Bounce.Account.{Account, free, zone_at}
use Rattle.busdma_machine.specs.Bounce.Growth.{grown, with_zone_for}
use Rattle.busdma_machine.specs.Bounce.Serving.{handed, waiting_at_tail}
use Rattle.busdma_base.specs.declared.journals.journal.Actor.{Actor}
use Rattle.busdma_base.specs.declared.journals.journal.Did.{Did}
use Rattle.busdma_base.specs.declared.journals.journal.Did.TheVariants as did
use Rattle.busdma_base.specs.declared.journals.journal.Side.TheVariants.{Script}
use Rattle.busdma_base.specs.Scenarios.Operations.{items_of}
use Rattle.ideal_lane.specs.Loads.{staged, unpaged, zone_of_map}
use Rattle.ideal_lane.specs.Reported.{gone_on}
use Rattle.ideal_lane.specs.Sends.{copied, send_at}
use Rattle.ideal_lane.specs.State.{LaneMap, LaneState, Waiting, WaitingLoad, named}
use Rattle.ideal_wire.specs.Answered.{load_at}
use Rattle.ideal_world.specs.World.{WorldState, step}

-- the map whose load was begun or completed by what was done, if there is one
abbrev pub map_loaded : LaneState → Did → Option ℕ
map_loaded l (did.Op place) = option_map (λ x. x.map) (load_at l place)
map_loaded l (did.Again place) = option_map (λ s. s.map) (send_at l.script place)
map_loaded l (did.Release map page) = None
map_loaded l (did.Callback map) = Some map.made_at
map_loaded l (did.Item load_at place) = None

-- the driver when the load of what was done begins: a resend has copied the chain to the clusters
abbrev pub begun_by : Did → LaneState → LaneState
begun_by (did.Op place) l = l
begun_by (did.Again place) l = option_map_or (λ s. copied s l) (send_at l.script place) l
begun_by (did.Release map page) l = l
begun_by (did.Callback map) l = l
begun_by (did.Item load_at place) l = l

-- the driver after a load of this map was tried, if the map exists
abbrev pub tried_at : ℕ → Option LaneMap → LaneState → LaneState
tried_at m None l = l
tried_at m (Some o) l = record l { maps = insert l.maps m (record o { tried = true }) }

-- the driver after a load was tried of the map at this place, if there is a place
abbrev pub tried_by : Option ℕ → LaneState → LaneState
tried_by None l = l
tried_by (Some m) l = tried_at m (get l.maps m) l

-- the driver after a load that was refused before it had pages, if what was done is a load: its map shows that a load
-- was tried, and a resend has copied the chain into its clusters
abbrev pub refused_load : Did → LaneState → LaneState
refused_load d l = tried_by (map_loaded l d) (begun_by d l)

-- the driver after a load with too many segments: its script goes on, or stays at a send whose clusters are enough
abbrev pub gone_by : Did → LaneState → LaneState
gone_by (did.Op place) l = if is_some (send_at l.script place) then record l { due = true } else gone_on Script l
gone_by (did.Again place) l = gone_on Script l
gone_by (did.Release map page) l = l
gone_by (did.Callback map) l = l
gone_by (did.Item load_at place) l = l

-- the callback list after what was done: a callback takes its head
abbrev pub ready_after : Did → List Waiter → List Waiter
ready_after (did.Op place) ready = ready
ready_after (did.Again place) ready = ready
ready_after (did.Release map page) ready = ready
ready_after (did.Callback map) ready = drop 1 ready
ready_after (did.Item load_at place) ready = ready

-- EFBIG: a number of pages from the front of the zone's list, perhaps 0, went to the map and are in the return queue
pub record IsTooBig (l : LaneState) (a : Account) (d : Did) (after : LaneState) (b : Account) : Type 0 where
  pub map : ℕ
  pub loaded : map_loaded l d ≡ Some map
  pub own : LaneMap
  pub there : get l.maps map ≡ Some own
  pub pages : List ℕ
  pub first : pages ≡ take (length pages) (zone_at a (zone_of_map own)).avail
  pub lane : after ≡ gone_by d (unpaged map own pages (begun_by d l))
  pub account : b ≡ record (handed a (named l map) (zone_of_map own) (length pages)) { ready = ready_after d a.ready }

-- EINPROGRESS: the map waits, with the load of the operation at the script's place, at the tail of its zone's waiting
-- list; all pages that are free there are promised to it
pub record IsDeferred (l : LaneState) (a : Account) (have need : ℕ) (after : LaneState) (b : Account) : Type 0 where
  pub map : ℕ
  pub own : LaneMap
  pub there : get l.maps map ≡ Some own
  pub load : WaitingLoad
  pub place : load.load_at ≡ l.place
  pub bytes : load_at l l.place ≡ Some (record { map = map; bio = load.bio })
  pub items : option_map items_of (slice_get l.script l.place) ≡ Some load.items
  pub needs : load.need ≡ need
  pub free : have ≡ free a (zone_of_map own)
  pub lane : after ≡ gone_on Script (staged map own (Waiting load) l)
  pub account : b ≡ waiting_at_tail a (named l map) (zone_of_map own) need

-- A tag or a map was not made. For some limits, a zone that serves them was looked up or made, and then the zone that
-- the answer names grew by the pages that came.
pub record IsUnmade (l : LaneState) (a : Account) (g : Grown) (after : LaneState) (b : Account) : Type 0 where
  pub limits : TagLimits
  pub lane : after ≡ gone_on Script l
  pub account : b ≡ grown (with_zone_for limits a) g.zone.0 g.added

-- an actor's turn leaves its driver and the account so that P holds of them, and the other drivers unchanged
pub record Leaves (w : WorldState) (actor : Actor) (P : LaneState → Account → Type 0) : Type 0 where
  pub lane : LaneState
  pub account : Account
  pub world : (step w actor).world ≡ record { lanes = slice_set w.lanes actor.lane.0 lane; account = account }
  pub left : P lane account
