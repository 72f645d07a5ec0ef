use Rattle.std.proofs.Common.{◌≡◌, ◌+◌, ◌-◌, ◌≤◌, cond, List, length, Some, refl, sym, ap, ◌∙◌, subst}
use Rattle.std.proofs.Common.{arith}
use Rattle.std.proofs.lemmas.Bool.{eq-eqb}
use Rattle.std.specs.FinMap.{get}
use Rattle.std.specs.List.{each_same}
use Rattle.busdma_machine.specs.declared.bounce.hold.HubCall.TheVariants.{Grab}
use Rattle.busdma_machine.specs.declared.name.MapId.{MapId}
use Rattle.busdma_machine.specs.declared.name.ZoneId.{ZoneId}
use Rattle.busdma_base.specs.declared.scenarios.scenario.PageRun.{PageRun}
use Rattle.busdma_base.specs.declared.scenarios.script.Item.{Item}
use Rattle.busdma_machine.specs.Bounce.Door.{Allows, HoldsAtDoor, account, grab_reply}
use Rattle.lane_tables.specs.Schedule.{Schedule}
use Rattle.ideal_lane.proofs.Lookups.{get_put}
use Rattle.ideal_lane.specs.Loads.{granted, limits_of, load_entries, zone_of_map}
use Rattle.ideal_lane.specs.Standing.{Stands}
use Rattle.ideal_lane.specs.State.{LaneMap, LaneState, named}
use Rattle.lane_state.specs.Covered.{is_idle_map, pages_due}
use Rattle.lane_state.specs.Ideal.{ideal_of}
use Rattle.lane_state.specs.Kept.{map_of}
use Rattle.lane_state.specs.Loading.{HasRoomForAny, IsLoadable, bio_bytes, bio_chunks, bio_of, load_loan}
use Rattle.lane_state.proofs.Keeping.{idle-there}
use Rattle.lane_state.proofs.MapValues.{image-some}
use Rattle.lane_state.proofs.Preparing.{has-need, room-for-any}
use Rattle.lane_loads.proofs.AwaitedLoads.{paged-reached}
use Rattle.ideal_wire.specs.Laid.{AreInPages}
use Rattle.lane_loads.proofs.loads.load_bounced.Goals as goal

pub grab-requires : goal.grab-requires
grab-requires g c =
    let h = c.args.holdings.now in
    let l = ideal_of h in
    let k = c.args.map in
    let d = g.D.HubDoor.seen c.args.door.now in
    let need = c.args.wanted.need in
    let idle = idle-there (get h.maps.map k) c.requires.idle in
    let o = map_of idle.0 in
    let is = image-some map_of h.maps.map k idle.0 idle.1 in
    let id : c.map_id-id.result ≡ named l k = c.map_id-id.ensures in
    let zone : c.zone_of-zone.result ≡ record { 0 = zone_of_map o } =
    ap (λ n. record { 0 = n }) (c.zone_of-zone.ensures o is) in
    subst (λ (m : MapId). Allows d m.lane.0 (Grab m c.zone_of-zone.result need c.args.nowait)) (sym id)
    (subst (λ (z : ZoneId). Allows d h.id.0 (Grab (named l k) z need c.args.nowait)) (sym zone)
    (c.requires.allowed o is))

pub take_grabbed-requires-clause-stands : goal.take_grabbed-requires-clause-stands
take_grabbed-requires-clause-stands g c = subst Stands (sym c.in_ok-ready_load.ensures.same.ideal) c.requires.stands

pub take_grabbed-requires-clause-idle : goal.take_grabbed-requires-clause-idle
take_grabbed-requires-clause-idle g c =
    ap (λ t. is_idle_map (get t.map c.args.map)) c.in_ok-ready_load.ensures.maps ∙ c.requires.idle

pub take_grabbed-requires-clause-loadable : goal.take_grabbed-requires-clause-loadable
take_grabbed-requires-clause-loadable g c =
    subst (λ (ps : List PageRun). IsLoadable ps (bio_of c.args.bytes))
    (sym (ap (λ (x : LaneState). x.pages) c.in_ok-ready_load.ensures.same.ideal)) c.requires.loadable

pub take_grabbed-requires-clause-room : goal.take_grabbed-requires-clause-room
take_grabbed-requires-clause-room g c =
    let l = ideal_of c.args.holdings.now in
    let k = c.args.map in
    let b = bio_of c.args.bytes in
    let need = c.args.wanted.need in
    let r = c.in_ok-room.ensures in
    let room : (o : LaneMap) → get l.maps k ≡ Some o →
    HasRoomForAny (limits_of l o) (bio_chunks l o b) need c.in_ok-room.room =
    λ o found. room-for-any (limits_of l o) (bio_chunks l o b) (bio_bytes b) need c.args.wanted.segments
    c.in_ok-room.room
    (c.requires.wanted o found) r.list r.shown r.bounced r.list_room r.shown_room r.bounced_room r.addresses
    r.addresses_room in
    subst (λ (x : LaneState). (o : LaneMap) → get x.maps k ≡ Some o →
    HasRoomForAny (limits_of x o) (bio_chunks x o b) need c.in_ok-room.room)
    (sym c.in_ok-ready_load.ensures.same.ideal) room

pub take_grabbed-requires-clause-prepared : goal.take_grabbed-requires-clause-prepared
take_grabbed-requires-clause-prepared g c =
    let h = c.args.holdings.now in
    let l = ideal_of h in
    let k = c.args.map in
    let b = bio_of c.args.bytes in
    let mid = c.ready_load.new.holdings in
    let loan = load_loan l k b in
    let prepared : get mid.loans.prepared k ≡ Some loan =
    ap (λ p. get p k) c.in_ok-ready_load.ensures.prepared ∙ get_put h.loans.prepared k loan k
    ∙ ap (λ b. cond b (Some loan) (get h.loans.prepared k)) (eq-eqb k k refl) in
    subst (λ (x : LaneState). get mid.loans.prepared k ≡ Some (load_loan x k b))
    (sym c.in_ok-ready_load.ensures.same.ideal) prepared

pub take_grabbed-requires-clause-few_items : goal.take_grabbed-requires-clause-few_items
take_grabbed-requires-clause-few_items g c =
    let items : c.in_ok-items.items ≡ c.args.items.now = each_same _ _ c.in_ok-items.ensures.cases in
    subst (λ (is : List Item). length is ≤ c.ready_load.new.holdings.agenda.room) (sym items)
    (subst (λ n. length c.args.items.now ≤ n) (sym (ap (λ a. a.room) c.in_ok-ready_load.ensures.promised))
    c.requires.few_items)

pub take_grabbed-requires-clause-promised : goal.take_grabbed-requires-clause-promised
take_grabbed-requires-clause-promised g c =
    let h = c.args.holdings.now in
    let fits = h.promised in
    omega (
      arith,
      fits,
      ap (λ t. pages_due t.map) c.in_ok-ready_load.ensures.maps,
      ap (λ a. a.promised) c.in_ok-ready_load.ensures.promised,
    )

pub take_grabbed-requires-clause-granted : goal.take_grabbed-requires-clause-granted
take_grabbed-requires-clause-granted g c =
    let held = c.in-Ok.ensures.held in
    has-need c.in-Ok.got c.map_id-id.result c.zone_of-zone.result.0 c.args.wanted.need c.args.nowait
    (account held.between) held.reply

pub returns-clause-done : goal.returns-clause-done
returns-clause-done g c o x found bios entries items =
    let h = c.args.holdings.now in
    let l = ideal_of h in
    let k = c.args.map in
    let b = bio_of c.args.bytes in
    let need = c.args.wanted.need in
    let d = g.D.HubDoor.seen c.args.door.now in
    let e = g.D.HubDoor.seen c.grab.new.self in
    let reply = grab_reply c.in-Ok.got in
    let id : c.map_id-id.result ≡ named l k = c.map_id-id.ensures in
    let zone : c.zone_of-zone.result ≡ record { 0 = zone_of_map o } =
    ap (λ n. record { 0 = n }) (c.zone_of-zone.ensures o found) in
    let same = c.in_ok-ready_load.ensures.same.ideal in
    let cloned : c.in_ok-items.items ≡ c.args.items.now = each_same _ _ c.in_ok-items.ensures.cases in
    record {
      reply = reply;
      holds =
          subst (λ (m : MapId). HoldsAtDoor d m.lane.0 (Grab m (record { 0 = zone_of_map o }) need c.args.nowait) reply
          e) id
          (subst (λ (z : ZoneId). HoldsAtDoor d c.map_id-id.result.lane.0 (Grab c.map_id-id.result z need c.args.nowait)
          reply e)
          zone c.in-Ok.ensures.held);
      is = c.take_grabbed.ensures.done o x (ap (λ (y : LaneState). get y.maps k) same ∙ found) bios
          (entries ∙ sym (ap (λ (y : LaneState). load_entries y b) same)) (items ∙ sym cloned)
          ∙ ap (λ (y : LaneState). granted k o x (bio_chunks y o b) y reply) same;
    }

pub take_grabbed-requires-clause-own : goal.take_grabbed-requires-clause-own
take_grabbed-requires-clause-own g c =
    ap (λ t. get t.map c.args.map) c.in_ok-ready_load.ensures.memories ∙ c.requires.own

pub returns-in-Err-clause-unpromised : goal.returns-in-Err-clause-unpromised
returns-in-Err-clause-unpromised g c =
    let a = c.args.holdings.now.agenda in
    let need = c.args.wanted.need in
    let back : a.promised + need - need ≡ a.promised = omega arith in
    c.undo_load.ensures.agenda
    ∙ ap (λ (b : Schedule). record b { promised = b.promised - need }) c.in_ok-ready_load.ensures.promised
    ∙ ap (λ p. record a { promised = p }) back

pub undo_load-requires-clause-idle : goal.undo_load-requires-clause-idle
undo_load-requires-clause-idle g c =
    ap (λ t. is_idle_map (get t.map c.args.map)) c.in_ok-ready_load.ensures.maps ∙ c.requires.idle

pub ready_load-requires-clause-reached : goal.ready_load-requires-clause-reached
ready_load-requires-clause-reached g c =
    paged-reached (ideal_of c.args.holdings.now) (bio_of c.args.bytes) c.requires.paged

pub take_grabbed-requires-clause-paged : goal.take_grabbed-requires-clause-paged
take_grabbed-requires-clause-paged g c =
    subst (λ (ps : List PageRun). AreInPages ps (bio_of c.args.bytes))
    (sym (ap (λ (x : LaneState). x.pages) c.in_ok-ready_load.ensures.same.ideal)) c.requires.paged

pub returns-clause-due : goal.returns-clause-due
returns-clause-due g c =
    omega (
      arith,
      c.take_grabbed.ensures.due,
      ap (λ t. pages_due t.map) c.in_ok-ready_load.ensures.maps,
      ap (λ a. a.promised) c.in_ok-ready_load.ensures.promised,
    )

pub returns-in-Err-clause-due : goal.returns-in-Err-clause-due
returns-in-Err-clause-due g c =
    omega (
      arith,
      ap (λ a. a.promised) (returns-in-Err-clause-unpromised g c),
      ap (λ t. pages_due t.map) c.in_ok-ready_load.ensures.maps,
      ap (λ t. pages_due t.map) c.undo_load.ensures.maps,
    )

pub returns-in_err-ready_load-clause-due : goal.returns-in_err-ready_load-clause-due
returns-in_err-ready_load-clause-due g c =
    omega (
      arith,
      ap (λ a. a.promised) c.in_err-ready_load.ensures.unpromised,
      ap (λ t. pages_due t.map) c.ready_load.ensures.maps,
    )
