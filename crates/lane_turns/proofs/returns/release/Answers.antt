use Rattle.std.proofs.Common.{arith}
use Rattle.std.proofs.Common.{◌≡◌, ℕ, ◌==◌, ◌≤◌, not, map, refl, sym, ap, ◌∙◌, subst}
use Rattle.std.proofs.lemmas.Map.Views.{exact_unsigned_eq}
use Rattle.std.specs.FinMap.{get}
use Rattle.std.specs.List.{list_any}
use Rattle.busdma_machine.specs.declared.bounce.hold.HubCall.TheVariants.{Release}
use Rattle.busdma_machine.specs.declared.bounce.hold.HubReply.TheVariants as reply
use Rattle.busdma_base.specs.declared.journals.answer.Answer.TheVariants as answer
use Rattle.busdma_base.specs.declared.journals.journal.Did.TheVariants as did
use Rattle.busdma_base.specs.declared.journals.journal.Side.TheVariants as side
use Rattle.busdma_machine.specs.declared.machine.address.Pa.{Pa}
use Rattle.busdma_machine.specs.declared.name.MapId.{MapId}
use Rattle.busdma_machine.specs.Bounce.Door.{HoldsAtDoor}
use Rattle.busdma_machine.specs.Machine.PageList.{page_address}
use Rattle.lane_agreement.specs.View.{Return}
use Rattle.lane_tables.specs.declared.queued.QueuedPage.{QueuedPage}
use Rattle.ideal_lane.specs.State.{LaneState, named}
use Rattle.ideal_lane.specs.Turns.{lane_step, script_turn, stepped, maps_completed as served_of}
use Rattle.ideal_lane.specs.Unloads.{given_back}
use Rattle.lane_state.specs.Covered.{is_covered_returning, pages_due}
use Rattle.lane_state.specs.Held.{devices_of, held}
use Rattle.lane_state.specs.Ideal.{ideal_of}
use Rattle.lane_state.specs.Kept.{map_of, return_of}
use Rattle.lane_state.specs.MapValues.{map_values}
use Rattle.lane_state.proofs.Bytes.{held-alike}
use Rattle.lane_state.proofs.Doors.{done-asks, on-none}
use Rattle.lane_state.proofs.MapTables.{AreMaps}
use Rattle.lane_state.proofs.MapValues.{image-some}
use Rattle.lane_state.proofs.Returned.{devices-after, due-back, maps-back}
use Rattle.lane_state.proofs.ReturnSteps.{back-in, given-back-is, last-is, noted, own-head, returning-there}
use Rattle.lane_state.proofs.Returned.{idled}
use Rattle.lane_turns.proofs.SameHoldings.{same-all}
use Rattle.lane_state.proofs.Awaiting.{awaiting-rest-if}
use Rattle.lane_state.specs.Awaiting.{AreAwaiting}
use Rattle.lane_turns.proofs.returns.release.Goals as goal

pub invariant_of-holdings-2 : goal.invariant_of-holdings-2
invariant_of-holdings-2 g c =
    let h = c.args.holdings.now in
    let r = c.in_ok-map.field-0 in
    let k = r.map.made_at in
    let rest = c.pop_return.new.self.returns in
    let own =
    own-head (r.map.lane.0 == h.id.0) (list_any (λ (p : QueuedPage). not (p.map.lane.0 == h.id.0)) rest)
    (sym (ap (λ qs. list_any (λ (p : QueuedPage). not (p.map.lane.0 == h.id.0)) qs) c.in_ok-map.ensures.page)
    ∙ h.own_returns) in
    let back =
    own-head (is_covered_returning (get h.maps.map k))
    (list_any (λ (p : QueuedPage). not (is_covered_returning (get h.maps.map p.map.made_at))) rest)
    (sym (ap (λ qs. list_any (λ (p : QueuedPage). not (is_covered_returning (get h.maps.map p.map.made_at))) qs)
    c.in_ok-map.ensures.page) ∙ h.returning) in
    let found = returning-there (get h.maps.map k) back.0 in
    let mine : r.map.lane.0 ≡ h.id.0 = exact_unsigned_eq r.map.lane.0 h.id.0 own.0 in
    let are : AreMaps h.maps.map h.loans.loans rest h.agenda.promised =
    record {
      loaded = h.loaded;
      unlent = h.unlent;
      promised = h.promised;
      returning = back.1;
      tried = h.tried;
    } in
    let maps =
    noted h.maps c.note_returned.new.maps k found.0 r.last found.1 c.note_returned.ensures.last
    c.note_returned.ensures.more in
    let all = c.in_ok-map.ensures.rest in
    let now =
    subst (λ t. AreMaps t.map h.loans.loans rest h.agenda.promised) (sym maps)
    (maps-back h.maps.map h.loans.loans h.agenda.promised rest are h.id.0 r.map found.0 found.1 found.2 mine own.1
    r.last c.in_ok-map.ensures.last) in
    let length = sym (ap (λ a. a.length) all) in
    record {
      covered = h.covered;
      reaches = h.reaches;
      framed = h.framed;
      placed = h.placed;
      standing = h.standing;
      tag_places = omega (arith, h.tag_places, length);
      map_places = omega (arith, ap (λ t. t.places) maps, h.map_places, length);
      memory_places = omega (arith, h.memory_places, length);
      ring_places = omega (arith, h.ring_places, length);
      loaded = now.loaded;
      unlent = now.unlent;
      promised = subst (λ (n : ℕ). pages_due c.note_returned.new.maps.map ≤ n) (sym (ap (λ a. a.promised) all))
          now.promised;
      own_returns = own.1;
      returning = now.returning;
      tried = now.tried;
      awaiting = subst (λ t. AreAwaiting h.pages.now h.maxmem h.tags.map t.map h.loans.prepared) (sym maps)
          (awaiting-rest-if h.pages.now h.maxmem h.tags.map h.maps.map h.loans.prepared h.awaiting r.last k
          (idled found.0) refl);
      ready = h.ready;
    }

pub returns-clause-done : goal.returns-clause-done
returns-clause-done g c =
    let h = c.args.holdings.now in
    let r = c.in_ok-map.field-0 in
    let k = r.map.made_at in
    let rest = c.pop_return.new.self.returns in
    let own =
    own-head (r.map.lane.0 == h.id.0) (list_any (λ (p : QueuedPage). not (p.map.lane.0 == h.id.0)) rest)
    (sym (ap (λ qs. list_any (λ (p : QueuedPage). not (p.map.lane.0 == h.id.0)) qs) c.in_ok-map.ensures.page)
    ∙ h.own_returns) in
    let back =
    own-head (is_covered_returning (get h.maps.map k))
    (list_any (λ (p : QueuedPage). not (is_covered_returning (get h.maps.map p.map.made_at))) rest)
    (sym (ap (λ qs. list_any (λ (p : QueuedPage). not (is_covered_returning (get h.maps.map p.map.made_at))) qs)
    c.in_ok-map.ensures.page) ∙ h.returning) in
    let found = returning-there (get h.maps.map k) back.0 in
    let mine : r.map.lane.0 ≡ h.id.0 = exact_unsigned_eq r.map.lane.0 h.id.0 own.0 in
    let are : AreMaps h.maps.map h.loans.loans rest h.agenda.promised =
    record {
      loaded = h.loaded;
      unlent = h.unlent;
      promised = h.promised;
      returning = back.1;
      tried = h.tried;
    } in
    let maps =
    noted h.maps c.note_returned.new.maps k found.0 r.last found.1 c.note_returned.ensures.last
    c.note_returned.ensures.more in
    let all = c.in_ok-map.ensures.rest in
    let l = ideal_of h in
    let d = g.D.HubDoor.seen c.args.door.now in
    let e = g.D.HubDoor.seen c.release-served.new.self in
    let served = c.release-served.result in
    let page : Pa = record { 0 = page_address r.page } in
    let back_page : Return = record { map = k; zone = r.zone.0; page = page_address r.page } in
    let map_is : r.map ≡ named l k = (λ i. record { lane = record { 0 = mine i }; made_at = k }) in
    let is_last = last-is h.id.0 r.map rest mine own.1 ∙ sym c.in_ok-map.ensures.last in
    let after : LaneState = record l {
      place = c.pop_return.new.self.place;
      maps = map_values map_of c.note_returned.new.maps.map;
      memory = held h.loans.bytes h.loans.loans (devices_of c.note_returned.new.maps.map) h.memory.memory;
      queue = c.pop_return.new.self.queue;
      returns = map return_of rest;
    } in
    let lanes : after ≡ given_back back_page (map return_of rest) l =
    (λ i. record l {
      place = (all i).place;
      maps = (ap (λ t. map_values map_of t.map) maps ∙ back-in h.maps.map k found.0 r.last found.1 found.2) i;
      memory = (ap (λ t. held h.loans.bytes h.loans.loans (devices_of t.map) h.memory.memory) maps
          ∙ held-alike h.loans.bytes h.loans.loans (devices_of h.maps.map) _ h.memory.memory
          (devices-after h.maps.map h.loans.loans h.agenda.promised rest are h.id.0 r.map found.0 found.1 found.2 mine
          own.1 r.last)) i;
      queue = (all i).queue;
      returns = map return_of rest;
    })
    ∙ sym (given-back-is l back_page (map return_of rest) (map_of found.0) r.last
    (image-some map_of h.maps.map k found.0 found.1) is_last) in
    done-asks d h.id.0 (lane_step l side.Script) (Release (named l k) (record { 0 = r.zone.0 }) page)
    (λ got. stepped side.Script (did.Release (named l k) page)
    (record { lane = given_back back_page (map return_of rest) l; answer = answer.Served (served_of got) }))
    (stepped side.Script (did.Release r.map c.address-at.result)
    (record { lane = after; answer = answer.Served served })) e
    (ap (λ qs. script_turn (map return_of qs) l) c.in_ok-map.ensures.page)
    (record {
      reply = reply.Served served;
      holds = subst (λ (m : MapId). HoldsAtDoor d m.lane.0 (Release m r.zone page) (reply.Served served) e) map_is
          c.release-served.ensures.held;
      is = λ i. stepped side.Script (did.Release (map_is i) (c.address-at.ensures i))
          (record { lane = lanes i; answer = answer.Served served });
    })

pub returns-clause-bytes : goal.returns-clause-bytes
returns-clause-bytes g c =
    let h = c.args.holdings.now in
    let r = c.in_ok-map.field-0 in
    let k = r.map.made_at in
    let rest = c.pop_return.new.self.returns in
    let own =
    own-head (r.map.lane.0 == h.id.0) (list_any (λ (p : QueuedPage). not (p.map.lane.0 == h.id.0)) rest)
    (sym (ap (λ qs. list_any (λ (p : QueuedPage). not (p.map.lane.0 == h.id.0)) qs) c.in_ok-map.ensures.page)
    ∙ h.own_returns) in
    let back =
    own-head (is_covered_returning (get h.maps.map k))
    (list_any (λ (p : QueuedPage). not (is_covered_returning (get h.maps.map p.map.made_at))) rest)
    (sym (ap (λ qs. list_any (λ (p : QueuedPage). not (is_covered_returning (get h.maps.map p.map.made_at))) qs)
    c.in_ok-map.ensures.page) ∙ h.returning) in
    let found = returning-there (get h.maps.map k) back.0 in
    let mine : r.map.lane.0 ≡ h.id.0 = exact_unsigned_eq r.map.lane.0 h.id.0 own.0 in
    let are : AreMaps h.maps.map h.loans.loans rest h.agenda.promised =
    record {
      loaded = h.loaded;
      unlent = h.unlent;
      promised = h.promised;
      returning = back.1;
      tried = h.tried;
    } in
    let maps =
    noted h.maps c.note_returned.new.maps k found.0 r.last found.1 c.note_returned.ensures.last
    c.note_returned.ensures.more in
    let all = c.in_ok-map.ensures.rest in
    record {
      own = refl;
      pages = λ m. ap (λ t. (devices_of t.map m).pages) maps
          ∙ ap (λ d. d.pages) (devices-after h.maps.map h.loans.loans h.agenda.promised rest are h.id.0 r.map found.0
          found.1 found.2 mine own.1 r.last m);
    }

pub returns-in_err-map-clause-same : goal.returns-in_err-map-clause-same
returns-in_err-map-clause-same g c =
    on-none c.from_residual.result (same-all c.args.holdings.now _ (record {
      most = record {
        script = refl;
        pages = refl;
        id = refl;
        maxmem = refl;
        memory = refl;
        memories = refl;
        rings = refl;
        loans = refl;
        shares = refl;
        due = refl;
      };
      tags = refl;
      maps = refl;
    }) c.in_err-map.ensures.none)

pub returns-clause-due : goal.returns-clause-due
returns-clause-due g c =
    let h = c.args.holdings.now in
    let r = c.in_ok-map.field-0 in
    let k = r.map.made_at in
    let rest = c.pop_return.new.self.returns in
    let own =
    own-head (r.map.lane.0 == h.id.0) (list_any (λ (p : QueuedPage). not (p.map.lane.0 == h.id.0)) rest)
    (sym (ap (λ qs. list_any (λ (p : QueuedPage). not (p.map.lane.0 == h.id.0)) qs) c.in_ok-map.ensures.page)
    ∙ h.own_returns) in
    let back =
    own-head (is_covered_returning (get h.maps.map k))
    (list_any (λ (p : QueuedPage). not (is_covered_returning (get h.maps.map p.map.made_at))) rest)
    (sym (ap (λ qs. list_any (λ (p : QueuedPage). not (is_covered_returning (get h.maps.map p.map.made_at))) qs)
    c.in_ok-map.ensures.page) ∙ h.returning) in
    let found = returning-there (get h.maps.map k) back.0 in
    let mine : r.map.lane.0 ≡ h.id.0 = exact_unsigned_eq r.map.lane.0 h.id.0 own.0 in
    let are : AreMaps h.maps.map h.loans.loans rest h.agenda.promised =
    record {
      loaded = h.loaded;
      unlent = h.unlent;
      promised = h.promised;
      returning = back.1;
      tried = h.tried;
    } in
    let maps =
    noted h.maps c.note_returned.new.maps k found.0 r.last found.1 c.note_returned.ensures.last
    c.note_returned.ensures.more in
    let due =
    due-back h.maps.map h.loans.loans h.agenda.promised rest are h.id.0 r.map found.0 found.1 found.2 mine own.1
    r.last in
    omega (arith, due, ap (λ t. pages_due t.map) maps, ap (λ a. a.promised) c.in_ok-map.ensures.rest)
