use Rattle.std.proofs.Common.{◌≡◌, ◌-◌, ◌++◌, Some, true, false, length, map, unwrap_or, refl, sym, ap, ◌∙◌}
use Rattle.std.proofs.Common.{subst, arith}
use Rattle.std.proofs.lemmas.Bool.{eq-eqb}
use Rattle.std.specs.FinMap.{get, insert, remove, contains_key}
use Rattle.busdma_machine.specs.declared.name.MapId.{MapId}
use Rattle.busdma_machine.specs.declared.name.ZoneId.{ZoneId}
use Rattle.lane_agreement.specs.View.{queued_back}
use Rattle.lane_tables.specs.Queues.{queued_pages}
use Rattle.busdma_rules.specs.Lending.SyncEffects.{lost_by_forgetting}
use Rattle.loan_table.specs.Table.{AreIn, set_all}
use Rattle.ideal_lane.specs.Loads.{emptied, unpaged}
use Rattle.ideal_lane.specs.State.{LaneState}
use Rattle.ideal_lane.specs.Unloads.{pages_of, loan_forgotten as unlent}
use Rattle.lane_state.specs.declared.kept.KeptMap.{KeptMap}
use Rattle.lane_state.specs.Covered.{AreOwn, has_load, is_tried, pages_due}
use Rattle.lane_state.specs.Held.{devices_of, held as held_memory}
use Rattle.lane_state.specs.Ideal.{ideal_of}
use Rattle.lane_state.specs.Kept.{device_of, map_of, kept_pages_in, return_of}
use Rattle.lane_state.specs.MapValues.{map_values}
use Rattle.lane_state.proofs.Bytes.{devices-elsewhere, held-forgotten}
use Rattle.lane_state.proofs.Keeping.{some-there}
use Rattle.lane_state.proofs.MapTables.{AreMaps, maps-of}
use Rattle.lane_state.proofs.MapValues.{image-some, map_values-insert}
use Rattle.lane_state.proofs.Marks.{has_set_all}
use Rattle.lane_state.proofs.Unloaded.{joined-pages, left, maps-unloaded, own-more, pages-few, pages-held, pages-over}
use Rattle.lane_loads.proofs.UnloadSteps.{left-is, loaded-tried, pages-are, returns-are, zone-is}
use Rattle.lane_state.proofs.Awaiting.{left-unkept, put-awaiting, still-ready}
use Rattle.lane_state.specs.Awaiting.{AreAwaiting}
use Rattle.lane_loads.proofs.unloads.end_load.Goals as goal

pub push_returns-requires : goal.push_returns-requires
push_returns-requires c =
    let h = c.args.holdings.now in
    let o : KeptMap = c.in-Some.kept.now in
    let m : MapId = record { lane = h.id; made_at = c.args.map } in
    let there : get h.maps.map c.args.map ≡ Some o = sym c.in-Some.ensures.value in
    pages-few h.maps.map h.loans.loans h.agenda.returns h.agenda.promised (maps-of h) m o c.unload-pages.result there
    c.unload-pages.ensures.pages

pub invariant_of-holdings : goal.invariant_of-holdings
invariant_of-holdings c =
    let h = c.args.holdings.now in
    let k = c.args.map in
    let o : KeptMap = c.in-Some.kept.now in
    let p = c.unload-pages.result in
    let m : MapId = record { lane = h.id; made_at = k } in
    let id = c.map_id-id.ensures in
    let zone = c.unwrap_or-zone.result in
    let there : get h.maps.map k ≡ Some o = sym c.in-Some.ensures.value in
    let tried : o.map.tried ≡ true =
    loaded-tried (map_of o).stage o.map.tried (sym (ap has_load there) ∙ c.requires)
    (sym (ap is_tried there) ∙ h.tried k) in
    let maps : insert h.maps.map k (record o { map = c.unload-pages.new.self }) ≡ insert h.maps.map k (left o p.items) =
    ap (λ v. insert h.maps.map k (record o { map = v })) c.unload-pages.ensures.left in
    let loans : c.forget.new.self.loans ≡ remove h.loans.loans k =
    c.forget.ensures.loans ∙ ap (λ (x : MapId). remove h.loans.loans x.made_at) id in
    let agenda = c.push_returns.ensures
    ∙ ap (λ (x : MapId). record h.agenda {
      returns = h.agenda.returns ++ queued_pages x zone p.items;
      promised = h.agenda.promised - length p.items;
    }) id in
    let base =
    maps-unloaded h.maps.map h.loans.loans h.agenda.returns h.agenda.promised (maps-of h) m o p there
    c.unload-pages.ensures.pages zone tried in
    let one =
    subst (λ ms. AreMaps ms (remove h.loans.loans k) (h.agenda.returns ++ queued_pages m zone p.items)
    (h.agenda.promised - length p.items)) (sym maps) base in
    let two =
    subst (λ ls. AreMaps (insert h.maps.map k (record o { map = c.unload-pages.new.self })) ls
    (h.agenda.returns ++ queued_pages m zone p.items)
    (h.agenda.promised - length p.items)) (sym loans) one in
    let are =
    subst (λ a. AreMaps (insert h.maps.map k (record o { map = c.unload-pages.new.self })) c.forget.new.self.loans
    a.returns a.promised) (sym agenda) two in
    record {
      covered = λ a. ap (λ b. contains_key b a) c.forget.ensures.bytes
          ∙ has_set_all _ _ _ c.forget.ensures.there a ∙ h.covered a;
      reaches = h.reaches;
      framed = h.framed;
      placed = h.placed;
      standing = h.standing;
      tag_places = omega (arith, h.tag_places, ap (λ a. a.length) agenda);
      map_places = omega (arith, h.map_places, ap (λ a. a.length) agenda);
      memory_places = omega (arith, h.memory_places, ap (λ a. a.length) agenda);
      ring_places = omega (arith, h.ring_places, ap (λ a. a.length) agenda);
      loaded = are.loaded;
      unlent = are.unlent;
      promised = are.promised;
      own_returns = subst (λ a. AreOwn h.id.0 a.returns) (sym agenda)
          (own-more h.id.0 h.agenda.returns m zone p.items (eq-eqb h.id.0 h.id.0 refl) h.own_returns);
      returning = are.returning;
      tried = are.tried;
      awaiting = subst (λ ms. AreAwaiting h.pages.now h.maxmem h.tags.map ms c.forget.new.self.prepared) (sym maps)
          (put-awaiting h c.forget.new.self.prepared c.forget.ensures.prepared k (left o p.items)
          (left-unkept o p.items));
      ready = still-ready h c.forget.new.self.prepared c.forget.ensures.prepared;
    }

pub returns-in-Some-clause-done : goal.returns-in-Some-clause-done
returns-in-Some-clause-done c other found =
    let h = c.args.holdings.now in
    let l = ideal_of h in
    let k = c.args.map in
    let o : KeptMap = c.in-Some.kept.now in
    let p = c.unload-pages.result in
    let m : MapId = record { lane = h.id; made_at = k } in
    let id = c.map_id-id.ensures in
    let zone = c.unwrap_or-zone.result in
    let there : get h.maps.map k ≡ Some o = sym c.in-Some.ensures.value in
    let is : get l.maps k ≡ Some (map_of o) = image-some map_of h.maps.map k o there in
    let same : map_of o ≡ other = cc in
    let tried : o.map.tried ≡ true =
    loaded-tried (map_of o).stage o.map.tried (sym (ap has_load there) ∙ c.requires)
    (sym (ap is_tried there) ∙ h.tried k) in
    let maps : insert h.maps.map k (record o { map = c.unload-pages.new.self }) ≡ insert h.maps.map k (left o p.items) =
    ap (λ v. insert h.maps.map k (record o { map = v })) c.unload-pages.ensures.left in
    let loans : c.forget.new.self.loans ≡ remove h.loans.loans k =
    c.forget.ensures.loans ∙ ap (λ (x : MapId). remove h.loans.loans x.made_at) id in
    let bytes : c.forget.new.self.bytes ≡ set_all h.loans.bytes (lost_by_forgetting h.loans.loans k) false =
    c.forget.ensures.bytes
    ∙ ap (λ (x : MapId). set_all h.loans.bytes (lost_by_forgetting h.loans.loans x.made_at) false) id in
    let in_table : AreIn h.loans.bytes (lost_by_forgetting h.loans.loans k) =
    subst (λ (x : MapId). AreIn h.loans.bytes (lost_by_forgetting h.loans.loans x.made_at)) id
    c.forget.ensures.there in
    let agenda = c.push_returns.ensures
    ∙ ap (λ (x : MapId). record h.agenda {
      returns = h.agenda.returns ++ queued_pages x zone p.items;
      promised = h.agenda.promised - length p.items;
    }) id in
    let loan = some-there (get h.loans.loans k) (h.loaded k ∙ c.requires) in
    let held_pages = pages-are o.map.stage p c.unload-pages.ensures.pages in
    let staged : map_of (left o p.items) ≡ record (map_of o) {
      tried = true;
      stage = emptied (pages_of (map_of o).stage);
    } =
    (λ i. record (map_of o) {
      tried = tried i;
      stage = (left-is p.items ∙ ap emptied (sym held_pages)) i;
    }) in
    let zoned : zone.0 ≡ unwrap_or (map_of o).zone 0 =
    ap (λ (z : ZoneId). z.0) (c.unwrap_or-zone.ensures ∙ ap (λ z. unwrap_or z (record { 0 = 0 })) c.zone.ensures)
    ∙ zone-is o.map.zone in
    let now : LaneState = record l {
      place = c.push_returns.new.self.place;
      maps = map_values map_of (insert h.maps.map k (record o { map = c.unload-pages.new.self }));
      memory = held_memory c.forget.new.self.bytes c.forget.new.self.loans
          (devices_of (insert h.maps.map k (record o { map = c.unload-pages.new.self })))
          h.memory.memory;
      loans = c.forget.new.self.loans;
      queue = c.push_returns.new.self.queue;
      returns = map return_of c.push_returns.new.self.returns;
    } in
    let base : now ≡ unpaged k (map_of o) (pages_of (map_of o).stage) (unlent k l) =
    (λ i. record l {
      place = (agenda i).place;
      maps = (ap (map_values map_of) maps ∙ map_values-insert map_of h.maps.map k (left o p.items)
          ∙ ap (insert l.maps k) staged) i;
      memory = ((λ j. held_memory (bytes j) (loans j) (devices_of (maps j)) h.memory.memory)
          ∙ held-forgotten h.loans.bytes h.loans.loans h.memory.memory (devices_of h.maps.map)
          (devices_of (insert h.maps.map k (left o p.items))) k loan.0 loan.1
          (devices-elsewhere h.maps.map k (left o p.items)) in_table) i;
      loans = loans i;
      queue = (agenda i).queue;
      returns = (ap (λ a. map return_of a.returns) agenda ∙ returns-are h.agenda.returns m zone p.items
          ∙ (λ j. map return_of h.agenda.returns ++ queued_back k (zoned j) (sym held_pages j))) i;
    }) in
    subst (λ x. now ≡ unpaged k x (pages_of x.stage) (unlent k l)) same base

pub returns-in-Some-clause-bytes : goal.returns-in-Some-clause-bytes
returns-in-Some-clause-bytes c =
    let h = c.args.holdings.now in
    let k = c.args.map in
    let o : KeptMap = c.in-Some.kept.now in
    let p = c.unload-pages.result in
    let m : MapId = record { lane = h.id; made_at = k } in
    let there : get h.maps.map k ≡ Some o = sym c.in-Some.ensures.value in
    let maps : insert h.maps.map k (record o { map = c.unload-pages.new.self }) ≡ insert h.maps.map k (left o p.items) =
    ap (λ v. insert h.maps.map k (record o { map = v })) c.unload-pages.ensures.left in
    record {
      own = refl;
      pages =
          rw maps (pages-held h.maps.map h.loans.loans h.agenda.returns h.agenda.promised (maps-of h) m o p there
          c.unload-pages.ensures.pages);
    }

pub returns-in-Some-clause-others : goal.returns-in-Some-clause-others
returns-in-Some-clause-others c =
    let h = c.args.holdings.now in
    let k = c.args.map in
    let o : KeptMap = c.in-Some.kept.now in
    let after : KeptMap = record o { map = c.unload-pages.new.self } in
    record { own = refl; pages = λ m off. ap (λ d. d.pages) (devices-elsewhere h.maps.map k after m off) }

pub returns-in-Some-clause-promised : goal.returns-in-Some-clause-promised
returns-in-Some-clause-promised c =
    let less = ap (λ a. a.promised) c.push_returns.ensures in
    omega (arith, less)

pub returns-in-Some-clause-due : goal.returns-in-Some-clause-due
returns-in-Some-clause-due c =
    let h = c.args.holdings.now in
    let k = c.args.map in
    let o : KeptMap = c.in-Some.kept.now in
    let p = c.unload-pages.result in
    let m : MapId = record { lane = h.id; made_at = k } in
    let there : get h.maps.map k ≡ Some o = sym c.in-Some.ensures.value in
    let maps : insert h.maps.map k (record o { map = c.unload-pages.new.self }) ≡ insert h.maps.map k (left o p.items) =
    ap (λ v. insert h.maps.map k (record o { map = v })) c.unload-pages.ensures.left in
    let over =
    pages-over h.maps.map h.loans.loans h.agenda.returns h.agenda.promised (maps-of h) m o p there
    c.unload-pages.ensures.pages in
    let few =
    pages-few h.maps.map h.loans.loans h.agenda.returns h.agenda.promised (maps-of h) m o p there
    c.unload-pages.ensures.pages in
    omega (arith, over, few, ap pages_due maps, ap (λ a. a.promised) c.push_returns.ensures)

pub returns-in-Some-clause-returned : goal.returns-in-Some-clause-returned
returns-in-Some-clause-returned c =
    let h = c.args.holdings.now in
    let o : KeptMap = c.in-Some.kept.now in
    let there : get h.maps.map c.args.map ≡ Some o = sym c.in-Some.ensures.value in
    ap (λ a. kept_pages_in a.returns) c.push_returns.ensures
    ∙ joined-pages h.agenda.returns c.map_id-id.result c.unwrap_or-zone.result o.map.stage c.unload-pages.result
    c.unload-pages.ensures.pages
    ∙ ap (λ x. kept_pages_in h.agenda.returns ++ (device_of x).pages) (sym there)
