-- The map that a callback is for: it waits, and its pages are as many as its load needs.
use Rattle.std.proofs.Common.{◌≡◌, ℕ, true, List, length, Option, Some, None, IfSome, sym, ap, ◌∙◌, subst}
use Rattle.std.proofs.lemmas.List.{length-map}
use Rattle.std.specs.FinMap.{get}
use Rattle.std.specs.Option.{option_map}
use Rattle.busdma_machine.specs.declared.bounce.hold.HubCall.TheVariants.{TakeCallback}
use Rattle.busdma_machine.specs.declared.bounce.hold.HubReply.TheVariants as reply
use Rattle.busdma_machine.specs.declared.name.MapId.{MapId}
use Rattle.busdma_machine.specs.Bounce.AccountStep.{as_pages}
use Rattle.busdma_machine.specs.Bounce.Door.{Seen, HoldsAtDoor, account}
use Rattle.busdma_machine.specs.Machine.Page.{FrameBytes}
use Rattle.busdma_machine.specs.Machine.PageList.{page_address, page_addresses}
use Rattle.lane_state.specs.declared.kept.KeptLoad.{KeptLoad}
use Rattle.dma_map.specs.declared.room.LoadRoom.{LoadRoom}
use Rattle.dma_map.specs.MapView as held
use Rattle.lane_agreement.proofs.Doors.{agrees-passes}
use Rattle.lane_agreement.proofs.Whole.{called-length, fit-reached}
use Rattle.ideal_lane.specs.State.{LaneMap, Stage, Idle, Waiting, Loaded, Returning, WaitingLoad}
use Rattle.ideal_lane.specs.Turns.{is_waiting, waits_in}
use Rattle.ideal_lane.specs.View.{view_of}
use Rattle.ideal_lane.proofs.TurnLaws.{waits-at}
use Rattle.lane_state.specs.declared.holdings.Holdings.{Holdings}
use Rattle.lane_state.specs.declared.kept.KeptMap.{KeptMap}
use Rattle.lane_state.specs.Awaiting.{kept_load}
use Rattle.lane_state.specs.Ideal.{ideal_of}
use Rattle.lane_state.specs.Kept.{map_of, kept_stage}
use Rattle.lane_state.specs.Served.{IsServed}
use Rattle.lane_state.proofs.Keeping.{told-some}
use Rattle.lane_state.proofs.MapValues.{get-map_values, image-some}

-- a map in this state keeps a load that waits
pub record KeepsLoad (s : held.HeldStage KeptLoad) : Type 0 where
  pub load_at : ℕ
  pub callback : KeptLoad
  pub room : LoadRoom
  pub is : s ≡ held.waiting load_at callback room

pub keeps-load : (s : held.HeldStage KeptLoad) → waits_in (kept_stage s) ≡ true → KeepsLoad s
keeps-load held.idle h = absurd (cc)
keeps-load (held.waiting load_at callback room) h =
    record { load_at = load_at; callback = callback; room = room; is = λ i. held.waiting load_at callback room }
keeps-load (held.loaded bounced segments pages) h = absurd (cc)
keeps-load (held.lent bounced segments frames) h = absurd (cc)
keeps-load held.returning h = absurd (cc)

-- the load that a map keeps, if it is there
pub load-kept : (o : Option KeptMap) (load_at : ℕ) (callback : KeptLoad) (room : LoadRoom) →
    kept_load o ≡ Some (load_at, callback, room) →
    (x : KeptMap) × (o ≡ Some x) × (x.map.stage ≡ held.waiting load_at callback room)
load-kept None load_at callback room h = absurd (cc)
load-kept (Some x) load_at callback room h = (x, (λ i. Some x), by x.map.stage h)
  where
    by : (s : held.HeldStage KeptLoad) → held.held_waiting_load s ≡ Some (load_at, callback, room) →
        s ≡ held.waiting load_at callback room
    by held.idle h = absurd (cc)
    by (held.waiting at other space) h =
        let same : ◌≡◌ {A = ℕ × KeptLoad × LoadRoom} (at, other, space) (load_at, callback, room) = cc in
        λ i. held.waiting (same i).0 (same i).1 (same i).2
    by (held.loaded bounced segments pages) h = absurd (cc)
    by (held.lent bounced segments frames) h = absurd (cc)
    by held.returning h = absurd (cc)

-- a map that the ideal driver sees waiting keeps a load
pub waits-kept : (h : Holdings) (m : ℕ) → is_waiting (get (ideal_of h).maps m) ≡ true →
    kept_load (get h.maps.map m) ≡ None → ⊥
waits-kept h m waits none =
    by (get h.maps.map m) (sym (ap is_waiting (get-map_values map_of h.maps.map m)) ∙ waits) none
  where
    by : (o : Option KeptMap) → is_waiting (option_map map_of o) ≡ true → kept_load o ≡ None → ⊥
    by None waits none = cc
    by (Some o) waits none =
        let load = keeps-load o.map.stage waits in
        let kept : held.held_waiting_load o.map.stage ≡ Some (load.load_at, load.callback, load.room) =
        ap held.held_waiting_load load.is in
        cc

-- the need of a load that a map keeps is the one for which the ideal driver sees it waiting
abbrev need_in : Stage → ℕ
need_in Idle = 0
need_in (Waiting w) = w.need
need_in (Loaded bounced segments pages) = 0
need_in Returning = 0

kept-need : (s : held.HeldStage KeptLoad) (v : WaitingLoad) (count : ℕ) → kept_stage s ≡ Waiting v → v.need ≡ count →
    IfSome (held.held_waiting_load s) (λ w. count ≡ w.1.need)
kept-need held.idle v count e n = tt
kept-need (held.waiting at callback room) v count e n = sym n ∙ sym (ap need_in e)
kept-need (held.loaded bounced segments pages) v count e n = tt
kept-need (held.lent bounced segments frames) v count e n = tt
kept-need held.returning v count e n = tt

-- a map that the ideal driver sees waiting keeps a load with the same need
pub kept-load : (h : Holdings) (m : ℕ) (o : KeptMap) → get h.maps.map m ≡ Some o →
    is_waiting (get (ideal_of h).maps m) ≡ true → KeepsLoad o.map.stage
kept-load h m o there waits =
    keeps-load o.map.stage (sym (ap is_waiting (image-some map_of h.maps.map m o there)) ∙ waits)

-- a map of a driver waits for so many pages
pub record WaitsFor (h : Holdings) (m count : ℕ) : Type 0 where
  pub map : KeptMap
  pub there : get h.maps.map m ≡ Some map
  pub waits : is_waiting (get (ideal_of h).maps m) ≡ true
  pub need : IfSome (kept_load (get h.maps.map m)) (λ w. count ≡ w.1.need)

module _ (h : Holdings) (d : Seen) (served : IsServed (ideal_of h) d) (m : MapId) (pas : List ℕ) (e : Seen)
    (holds : HoldsAtDoor d h.id.0 TakeCallback (reply.Called m (as_pages pas)) e) where
  pub called-waits : WaitsFor h m.made_at (length pas)
  called-waits =
      let l = ideal_of h in
      let k = m.made_at in
      let b = holds.between in
      let agrees = agrees-passes (view_of l) d holds.others b served.agrees served.served holds.passes in
      let well = (fit-reached b.opening b.history holds.passes.form holds.passes.sound).well in
      let c =
      called-length (view_of l) (account b).ready (account b) m (as_pages pas) well agrees (λ i. (account b).ready)
      (sym holds.reply) in
      let w = waits-at l k c.2 c.0 c.3 in
      let x = told-some map_of (get h.maps.map k) w.map (sym (get-map_values map_of h.maps.map k) ∙ w.found) in
      let stage = ap (λ (y : LaneMap). y.stage) x.2 ∙ w.stage in
      record {
        map = x.0;
        there = x.1;
        waits = ap is_waiting w.found ∙ ap waits_in w.stage;
        need = subst (λ q. IfSome (kept_load q) (λ v. length pas ≡ v.1.need)) (sym x.1)
            (kept-need x.0.map.stage w.load (length pas) stage
            (w.counted ∙ sym c.4 ∙ length-map pas (λ p. record { 0 = p })));
      }

-- a map whose callback is due gets as many pages as its load needs
pub called-need : (h : Holdings) (d : Seen) (served : IsServed (ideal_of h) d) (m : MapId) (pages : List FrameBytes)
    (e : Seen) (holds : HoldsAtDoor d h.id.0 TakeCallback (reply.Called m (as_pages (page_addresses pages))) e) →
    IfSome (kept_load (get h.maps.map m.made_at)) (λ w. length pages ≡ w.1.need)
called-need h d served m pages e holds =
    subst (λ n. IfSome (kept_load (get h.maps.map m.made_at)) (λ w. n ≡ w.1.need)) (length-map pages page_address)
    (called-waits h d served m (page_addresses pages) e holds).need
