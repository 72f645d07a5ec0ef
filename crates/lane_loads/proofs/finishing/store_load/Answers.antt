use Rattle.std.proofs.Common.{◌≡◌, ◌+◌, ◌≤◌, Some, true, unwrap_or, refl, sym, ap, ◌∙◌, subst}
use Rattle.std.proofs.Common.{arith, cond, length}
use Rattle.std.proofs.lemmas.Bool.{eq-eqb}
use Rattle.std.specs.FinMap.{get, insert, remove, contains_key}
use Rattle.ideal_lane.proofs.Lookups.{get_put}
use Rattle.ideal_lane.proofs.Weights.{weigh-put}
use Rattle.busdma_machine.specs.declared.name.MapId.{MapId}
use Rattle.busdma_machine.specs.Machine.PageList.{page_addresses}
use Rattle.dma_map.specs.MapView.{loaded}
use Rattle.busdma_rules.specs.Lending.Loans.{loan_of, new_loan, no_loan}
use Rattle.ideal_lane.specs.State.{LaneMap, Loaded}
use Rattle.lane_state.specs.declared.kept.KeptMap.{KeptMap}
use Rattle.lane_state.specs.Covered.{has_load, is_idle_map, pages_due}
use Rattle.lane_state.specs.Held.{devices_of, held}
use Rattle.lane_state.specs.Ideal.{ideal_of}
use Rattle.lane_state.specs.Kept.{due_of, map_of}
use Rattle.lane_state.specs.MapValues.{map_values}
use Rattle.lane_state.proofs.Bytes.{devices-elsewhere}
use Rattle.lane_state.proofs.Keeping.{idle-map, idle-state}
use Rattle.lane_loads.proofs.Loaded.{held-loaded, loans-more, maps-staged, none-loaned}
use Rattle.lane_state.proofs.MapTables.{AreMaps, maps-of}
use Rattle.lane_state.proofs.MapValues.{image-some, map_values-insert}
use Rattle.lane_state.proofs.Awaiting.{awaiting-put, less-other}
use Rattle.lane_state.specs.Awaiting.{AreAwaiting, AreOfMaps}
use Rattle.lane_state.proofs.OfMaps.{of-maps-less}
use Rattle.lane_loads.proofs.finishing.store_load.Goals as goal

pub finish-requires : goal.finish-requires
finish-requires c =
    let o : KeptMap = c.in-Some.kept.now in
    let there : get c.args.holdings.now.maps.map c.args.map ≡ Some o = sym c.in-Some.ensures.value in
    idle-state o.map.stage (sym (ap is_idle_map there) ∙ c.requires.idle)

pub open_map-requires : goal.open_map-requires
open_map-requires c =
    rw (ap (λ (x : MapId). get c.args.holdings.now.loans.prepared x.made_at) c.map_id-id.ensures
    ∙ c.requires.prepared.is)
    refl

pub invariant_of-holdings : goal.invariant_of-holdings
invariant_of-holdings c =
    let h = c.args.holdings.now in
    let k = c.args.map in
    let o : KeptMap = c.in-Some.kept.now in
    let there : get h.maps.map k ≡ Some o = sym c.in-Some.ensures.value in
    let idle = idle-map o (sym (ap is_idle_map there) ∙ c.requires.idle) in
    let v : KeptMap = record o {
      map = record o.map { tried = true; stage = loaded c.args.bounced c.args.segments c.args.pages };
    } in
    let maps : insert h.maps.map k (record o { map = c.finish.new.self }) ≡ insert h.maps.map k v =
    ap (λ x. insert h.maps.map k (record o { map = x })) c.finish.ensures in
    let loan = loan_of h.loans.prepared k in
    let loans : c.open_map.new.self.loans ≡ insert h.loans.loans k loan =
    c.open_map.ensures.loans
    ∙ ap (λ (x : MapId). insert h.loans.loans x.made_at (loan_of h.loans.prepared x.made_at)) c.map_id-id.ensures in
    let fits : pages_due h.maps.map + due_of v ≤ h.agenda.promised = c.requires.promised in
    let base =
    maps-staged h.maps.map h.loans.loans h.agenda.returns h.agenda.promised (maps-of h) k o v there idle
    (insert h.loans.loans k loan)
    (loans-more h.maps.map h.loans.loans h.agenda.returns h.agenda.promised (maps-of h) k o v there idle loan refl)
    refl refl refl fits in
    let one =
    subst (λ ms. AreMaps ms (insert h.loans.loans k loan) h.agenda.returns h.agenda.promised) (sym maps) base in
    let are =
    subst (λ ls. AreMaps (insert h.maps.map k (record o { map = c.finish.new.self })) ls h.agenda.returns
    h.agenda.promised) (sym loans) one in
    let ls = c.open_map.new.self.prepared in
    let prepared : ls ≡ remove h.loans.prepared k =
    c.open_map.ensures.prepared ∙ ap (λ (x : MapId). remove h.loans.prepared x.made_at) c.map_id-id.ensures in
    record {
      covered = λ a. ap (λ b. contains_key b a) c.open_map.ensures.bytes ∙ h.covered a;
      reaches = h.reaches;
      framed = h.framed;
      placed = h.placed;
      standing = h.standing;
      tag_places = h.tag_places;
      map_places = h.map_places;
      memory_places = h.memory_places;
      ring_places = h.ring_places;
      loaded = are.loaded;
      unlent = are.unlent;
      promised = are.promised;
      own_returns = h.own_returns;
      returning = are.returning;
      tried = are.tried;
      awaiting = subst (λ ms. AreAwaiting h.pages.now h.maxmem h.tags.map ms ls) (sym maps)
          (awaiting-put h.pages.now h.maxmem h.tags.map h.maps.map h.loans.prepared h.awaiting k v ls
          (less-other h.loans.prepared ls k prepared) tt);
      ready = subst (AreOfMaps h.pages.now h.memories.map) (sym prepared)
          (of-maps-less h.pages.now h.memories.map h.loans.prepared h.ready k);
    }

pub returns-in-Some-clause-done : goal.returns-in-Some-clause-done
returns-in-Some-clause-done c other found =
    let h = c.args.holdings.now in
    let l = ideal_of h in
    let k = c.args.map in
    let o : KeptMap = c.in-Some.kept.now in
    let there : get h.maps.map k ≡ Some o = sym c.in-Some.ensures.value in
    let idle = idle-map o (sym (ap is_idle_map there) ∙ c.requires.idle) in
    let v : KeptMap = record o {
      map = record o.map { tried = true; stage = loaded c.args.bounced c.args.segments c.args.pages };
    } in
    let maps : insert h.maps.map k (record o { map = c.finish.new.self }) ≡ insert h.maps.map k v =
    ap (λ x. insert h.maps.map k (record o { map = x })) c.finish.ensures in
    let loan = loan_of h.loans.prepared k in
    let loans : c.open_map.new.self.loans ≡ insert h.loans.loans k loan =
    c.open_map.ensures.loans
    ∙ ap (λ (x : MapId). insert h.loans.loans x.made_at (loan_of h.loans.prepared x.made_at)) c.map_id-id.ensures in
    let is : get l.maps k ≡ Some (map_of o) = image-some map_of h.maps.map k o there in
    let same : map_of o ≡ other = cc in
    let new = new_loan c.requires.prepared.coherent c.requires.prepared.bytes in
    let loan_is : loan ≡ new = ap (λ x. unwrap_or x no_loan) c.requires.prepared.is in
    let none =
    none-loaned h.maps.map h.loans.loans h.agenda.returns h.agenda.promised (maps-of h) k o v there idle in
    (λ i. record l {
      maps = (ap (map_values map_of) maps ∙ map_values-insert map_of h.maps.map k v
          ∙ ap (λ (x : LaneMap). insert l.maps k (record x {
            tried = true;
            stage = Loaded c.args.bounced c.args.segments (page_addresses c.args.pages.items);
          })) same) i;
      memory = ((λ j. held (c.open_map.ensures.bytes j) ((loans ∙ ap (insert h.loans.loans k) loan_is) j)
          (devices_of (maps j)) h.memory.memory)
          ∙ held-loaded h.loans.bytes h.loans.loans h.memory.memory (devices_of h.maps.map)
          (devices_of (insert h.maps.map k v)) k c.requires.prepared.coherent c.requires.prepared.bytes none
          (devices-elsewhere h.maps.map k v)) i;
      loans = loans i;
    })

pub returns-in-Some-clause-bytes : goal.returns-in-Some-clause-bytes
returns-in-Some-clause-bytes c =
    let h = c.args.holdings.now in
    let k = c.args.map in
    let o : KeptMap = c.in-Some.kept.now in
    let after : KeptMap = record o { map = c.finish.new.self } in
    record { own = refl; pages = λ m off. ap (λ d. d.pages) (devices-elsewhere h.maps.map k after m off) }

pub returns-in-Some-clause-loaded : goal.returns-in-Some-clause-loaded
returns-in-Some-clause-loaded c =
    let h = c.args.holdings.now in
    let k = c.args.map in
    let o : KeptMap = c.in-Some.kept.now in
    let v : KeptMap = record o {
      map = record o.map { tried = true; stage = loaded c.args.bounced c.args.segments c.args.pages };
    } in
    let maps : insert h.maps.map k (record o { map = c.finish.new.self }) ≡ insert h.maps.map k v =
    ap (λ x. insert h.maps.map k (record o { map = x })) c.finish.ensures in
    ap (λ ms. has_load (get ms k)) maps ∙ ap has_load (get_put h.maps.map k v k)
    ∙ ap (λ b. has_load (cond b (Some v) (get h.maps.map k))) (eq-eqb k k refl)

pub returns-in-Some-clause-due : goal.returns-in-Some-clause-due
returns-in-Some-clause-due c =
    let h = c.args.holdings.now in
    let k = c.args.map in
    let o : KeptMap = c.in-Some.kept.now in
    let there : get h.maps.map k ≡ Some o = sym c.in-Some.ensures.value in
    let idle = idle-map o (sym (ap is_idle_map there) ∙ c.requires.idle) in
    let v : KeptMap = record o {
      map = record o.map { tried = true; stage = loaded c.args.bounced c.args.segments c.args.pages };
    } in
    let maps : insert h.maps.map k (record o { map = c.finish.new.self }) ≡ insert h.maps.map k v =
    ap (λ x. insert h.maps.map k (record o { map = x })) c.finish.ensures in
    let weight : pages_due (insert h.maps.map k v) + due_of o ≡ pages_due h.maps.map + length c.args.pages.items =
    weigh-put due_of h.maps.map k o v there in
    let more : pages_due (insert h.maps.map k v) ≡ pages_due h.maps.map + length c.args.pages.items =
    omega (arith, weight, idle.undue) in
    ap pages_due maps ∙ more
