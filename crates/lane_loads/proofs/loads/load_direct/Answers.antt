use Rattle.std.proofs.Common.{◌≡◌, ◌≤◌, cond, List, [], length, Some, refl, sym, ap, ◌∙◌, subst, arith}
use Rattle.std.proofs.lemmas.Bool.{eq-eqb}
use Rattle.std.specs.FinMap.{get}
use Rattle.std.specs.List.{each_same}
use Rattle.busdma_base.specs.declared.scenarios.scenario.PageRun.{PageRun}
use Rattle.busdma_base.specs.declared.scenarios.script.Item.{Item}
use Rattle.busdma_machine.specs.Machine.Page.{FrameBytes}
use Rattle.busdma_machine.specs.Machine.PageList.{RoomyPages, page_addresses}
use Rattle.ideal_lane.proofs.Lookups.{get_put}
use Rattle.ideal_lane.specs.Loads.{finished, limits_of, load_entries}
use Rattle.ideal_lane.specs.Standing.{Stands}
use Rattle.ideal_lane.specs.State.{LaneMap, LaneState}
use Rattle.lane_state.specs.Covered.{is_idle_map, pages_due}
use Rattle.lane_state.specs.Ideal.{ideal_of}
use Rattle.lane_state.specs.Loading.{AreItsFirst, HasRoomForAny, IsLoadable, bio_bytes, bio_of, bio_reached}
use Rattle.lane_state.specs.Loading.{load_loan, map_chunks}
use Rattle.lane_state.proofs.Preparing.{room-for-any}
use Rattle.lane_loads.proofs.loads.load_direct.Goals as goal

pub complete_load-requires : goal.complete_load-requires
complete_load-requires c =
    let h = c.args.holdings.now in
    let mid = c.prepare_load.new.holdings in
    let l = ideal_of h in
    let k = c.args.map in
    let b = bio_of c.args.bytes in
    let done = c.in_ok-prepare_load.ensures in
    let e : ideal_of mid ≡ l = done.same.ideal in
    let none : c.in_ok-pages.pages.items ≡ [] = ap (λ (p : RoomyPages). p.items) c.in_ok-pages.ensures in
    let items : c.in_ok-items.items ≡ c.args.items.now = each_same _ _ c.in_ok-items.ensures.cases in
    let r = c.in_ok-room.ensures in
    let need : c.args.wanted.need ≡ length c.in_ok-pages.pages.items =
    c.requires.direct ∙ sym (ap (λ (ps : List FrameBytes). length ps) none) in
    let room : (o : LaneMap) → get l.maps k ≡ Some o →
    HasRoomForAny (limits_of l o) (map_chunks l k o b) (length c.in_ok-pages.pages.items) c.in_ok-room.room =
    λ o found. subst (λ n. HasRoomForAny (limits_of l o) (map_chunks l k o b) n c.in_ok-room.room) need
    (room-for-any (limits_of l o) (map_chunks l k o b) (bio_bytes b) c.args.wanted.need c.args.wanted.segments
    c.in_ok-room.room (c.requires.wanted o found) r.list r.shown r.bounced r.list_room r.shown_room r.bounced_room
    r.addresses r.addresses_room) in
    let loan = load_loan l k b in
    let prepared : get mid.loans.prepared k ≡ Some loan =
    ap (λ p. get p k) done.prepared ∙ get_put h.loans.prepared k loan k
    ∙ ap (λ b. cond b (Some loan) (get h.loans.prepared k)) (eq-eqb k k refl) in
    record {
      stands = subst Stands (sym e) c.requires.stands;
      idle = ap (λ t. is_idle_map (get t.map k)) done.maps ∙ c.requires.idle;
      reached = ap (λ (x : LaneState). bio_reached x b) e ∙ c.requires.reached;
      first = subst (λ (x : LaneState). AreItsFirst x k b) (sym e) c.requires.first;
      loadable = subst (λ (ps : List PageRun). IsLoadable ps b) (sym (ap (λ (x : LaneState). x.pages) e))
          c.requires.loadable;
      room = subst (λ (x : LaneState). (o : LaneMap) → get x.maps k ≡ Some o →
          HasRoomForAny (limits_of x o) (map_chunks x k o b) (length c.in_ok-pages.pages.items) c.in_ok-room.room)
          (sym e) room;
      prepared = subst (λ (x : LaneState). get mid.loans.prepared k ≡ Some (load_loan x k b)) (sym e) prepared;
      few_items = subst (λ (is : List Item). length is ≤ mid.agenda.room) (sym items)
          (subst (λ n. length c.args.items.now ≤ n) (sym (ap (λ a. a.room) done.agenda)) c.requires.few_items);
      promised = let fits = mid.promised in omega (arith, fits, ap (λ (ps : List FrameBytes). length ps) none);
    }

pub returns-clause-done : goal.returns-clause-done
returns-clause-done c o x found entries items =
    let h = c.args.holdings.now in
    let mid = c.prepare_load.new.holdings in
    let l = ideal_of h in
    let k = c.args.map in
    let b = bio_of c.args.bytes in
    let done = c.in_ok-prepare_load.ensures in
    let e : ideal_of mid ≡ l = done.same.ideal in
    let none : c.in_ok-pages.pages.items ≡ [] = ap (λ (p : RoomyPages). p.items) c.in_ok-pages.ensures in
    let same : c.in_ok-items.items ≡ c.args.items.now = each_same _ _ c.in_ok-items.ensures.cases in
    c.complete_load.ensures.done o x (ap (λ (y : LaneState). get y.maps k) e ∙ found)
    (entries ∙ sym (ap (λ (y : LaneState). load_entries y b) e)) (items ∙ sym same)
    ∙ (λ i. finished k o ((c.place-load_at.ensures ∙ ap (λ a. a.place) done.agenda) i) x (map_chunks (e i) k o b)
    (page_addresses (none i)) (e i))

pub returns-clause-bytes : goal.returns-clause-bytes
returns-clause-bytes c =
    let kept = c.in_ok-prepare_load.ensures.same.bytes in
    let then = c.complete_load.ensures.bytes in
    record {
      own = then.own ∙ kept.own;
      pages = λ m off. then.pages m off ∙ kept.pages m;
    }

pub returns-clause-due : goal.returns-clause-due
returns-clause-due c =
    let done = c.in_ok-prepare_load.ensures in
    omega (
      arith,
      c.complete_load.ensures.due,
      ap (λ a. a.promised) done.agenda,
      ap (λ t. pages_due t.map) done.maps,
      ap (λ (p : RoomyPages). length p.items) c.in_ok-pages.ensures,
    )
