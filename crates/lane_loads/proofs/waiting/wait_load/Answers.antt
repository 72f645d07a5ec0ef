use Rattle.std.proofs.Common.{◌≡◌, ◌+◌, ◌≤◌, Some, true, refl, sym, ap, ◌∙◌, subst, arith}
use Rattle.std.specs.FinMap.{get, insert}
use Rattle.dma_map.specs.MapView.{waiting}
use Rattle.ideal_lane.proofs.Weights.{weigh-put}
use Rattle.ideal_lane.specs.State.{LaneMap, Waiting}
use Rattle.lane_state.specs.declared.kept.KeptMap.{KeptMap}
use Rattle.lane_state.specs.Covered.{is_idle_map, pages_due}
use Rattle.lane_state.specs.Held.{devices_of, held}
use Rattle.lane_state.specs.Ideal.{ideal_of}
use Rattle.lane_state.specs.Kept.{device_of, due_of, map_of, waits_of}
use Rattle.lane_state.specs.MapValues.{map_values}
use Rattle.lane_state.proofs.Bytes.{devices-put, held-alike}
use Rattle.lane_state.proofs.Keeping.{idle-map, idle-state}
use Rattle.lane_loads.proofs.Loaded.{loans-stay, maps-staged}
use Rattle.lane_state.proofs.MapTables.{AreMaps, maps-of}
use Rattle.lane_state.proofs.MapValues.{image-some, map_values-insert}
use Rattle.lane_state.proofs.Awaiting.{awaiting-put}
use Rattle.lane_state.specs.Awaiting.{AreAwaiting}
use Rattle.lane_loads.proofs.waiting.wait_load.Goals as goal

pub wait-requires : goal.wait-requires
wait-requires c =
    let o : KeptMap = c.in-Some.kept.now in
    let there : get c.args.holdings.now.maps.map c.args.map ≡ Some o = sym c.in-Some.ensures.value in
    idle-state o.map.stage (sym (ap is_idle_map there) ∙ c.requires.idle)

pub invariant_of-holdings : goal.invariant_of-holdings
invariant_of-holdings c =
    let h = c.args.holdings.now in
    let k = c.args.map in
    let o : KeptMap = c.in-Some.kept.now in
    let there : get h.maps.map k ≡ Some o = sym c.in-Some.ensures.value in
    let idle = idle-map o (sym (ap is_idle_map there) ∙ c.requires.idle) in
    let v : KeptMap = record {
      tag = o.tag;
      map = record o.map { tried = true; stage = waiting c.args.load_at c.args.load c.args.room };
    } in
    let maps : insert h.maps.map k (record { tag = o.tag; map = c.wait.new.self })
    ≡ insert h.maps.map k v =
    ap (λ x. insert h.maps.map k (record { tag = o.tag; map = x })) c.wait.ensures in
    let fits : pages_due h.maps.map + due_of v ≤ h.agenda.promised = c.requires.promised in
    let are =
    subst (λ ms. AreMaps ms h.loans.loans h.agenda.returns h.agenda.promised) (sym maps)
    (maps-staged h.maps.map h.loans.loans h.agenda.returns h.agenda.promised (maps-of h) k o v there idle h.loans.loans
    (loans-stay h.maps.map h.loans.loans h.agenda.returns h.agenda.promised (maps-of h) k o v there idle refl)
    refl refl refl fits) in
    record {
      covered = h.covered;
      reaches = h.reaches;
      framed = h.framed;
      placed = h.placed;
      standing = h.standing;
      tag_places = h.tag_places;
      map_places = h.map_places;
      memory_places = h.memory_places;
      ring_places = h.ring_places;
      loaded = are.loaded;
      unlent = are.unlent;
      promised = are.promised;
      own_returns = h.own_returns;
      returning = are.returning;
      tried = are.tried;
      awaiting = subst (λ ms. AreAwaiting h.pages.now h.maxmem h.tags.map ms h.loans.prepared) (sym maps)
          (awaiting-put h.pages.now h.maxmem h.tags.map h.maps.map h.loans.prepared h.awaiting k v h.loans.prepared
          (λ q off. refl) (c.requires.awaiting o there));
      ready = h.ready;
    }

pub returns-in-Some-clause-done : goal.returns-in-Some-clause-done
returns-in-Some-clause-done c other found =
    let h = c.args.holdings.now in
    let l = ideal_of h in
    let k = c.args.map in
    let o : KeptMap = c.in-Some.kept.now in
    let there : get h.maps.map k ≡ Some o = sym c.in-Some.ensures.value in
    let on = sym (ap is_idle_map there) ∙ c.requires.idle in
    let idle = idle-map o on in
    let v : KeptMap = record {
      tag = o.tag;
      map = record o.map { tried = true; stage = waiting c.args.load_at c.args.load c.args.room };
    } in
    let maps : insert h.maps.map k (record { tag = o.tag; map = c.wait.new.self })
    ≡ insert h.maps.map k v =
    ap (λ x. insert h.maps.map k (record { tag = o.tag; map = x })) c.wait.ensures in
    let is : get l.maps k ≡ Some (map_of o) = image-some map_of h.maps.map k o there in
    let same : map_of o ≡ other = cc in
    let bare : device_of (Some v) ≡ device_of (get h.maps.map k) = sym (ap device_of there ∙ idle.unheld) in
    (λ i. record l {
      maps = (ap (map_values map_of) maps ∙ map_values-insert map_of h.maps.map k v
          ∙ ap (λ (x : LaneMap). insert l.maps k (record x
          { tried = true; stage = Waiting (waits_of c.args.load_at c.args.load) })) same) i;
      memory = (ap (λ ms. held h.loans.bytes h.loans.loans (devices_of ms) h.memory.memory) maps
          ∙ held-alike h.loans.bytes h.loans.loans (devices_of h.maps.map) (devices_of (insert h.maps.map k v))
          h.memory.memory (devices-put h.maps.map k v bare)) i;
    })

pub returns-in-Some-clause-bytes : goal.returns-in-Some-clause-bytes
returns-in-Some-clause-bytes c =
    let h = c.args.holdings.now in
    let k = c.args.map in
    let o : KeptMap = c.in-Some.kept.now in
    let there : get h.maps.map k ≡ Some o = sym c.in-Some.ensures.value in
    let idle = idle-map o (sym (ap is_idle_map there) ∙ c.requires.idle) in
    let v : KeptMap = record {
      tag = o.tag;
      map = record o.map { tried = true; stage = waiting c.args.load_at c.args.load c.args.room };
    } in
    let maps : insert h.maps.map k (record { tag = o.tag; map = c.wait.new.self })
    ≡ insert h.maps.map k v =
    ap (λ x. insert h.maps.map k (record { tag = o.tag; map = x })) c.wait.ensures in
    let bare : device_of (Some v) ≡ device_of (get h.maps.map k) = sym (ap device_of there ∙ idle.unheld) in
    record {
      own = refl;
      pages = λ m. ap (λ ms. (devices_of ms m).pages) maps ∙ ap (λ d. d.pages) (devices-put h.maps.map k v bare m);
    }

pub returns-in-Some-clause-due : goal.returns-in-Some-clause-due
returns-in-Some-clause-due c =
    let h = c.args.holdings.now in
    let k = c.args.map in
    let o : KeptMap = c.in-Some.kept.now in
    let there : get h.maps.map k ≡ Some o = sym c.in-Some.ensures.value in
    let idle = idle-map o (sym (ap is_idle_map there) ∙ c.requires.idle) in
    let v : KeptMap = record {
      tag = o.tag;
      map = record o.map { tried = true; stage = waiting c.args.load_at c.args.load c.args.room };
    } in
    let maps : insert h.maps.map k (record { tag = o.tag; map = c.wait.new.self })
    ≡ insert h.maps.map k v =
    ap (λ x. insert h.maps.map k (record { tag = o.tag; map = x })) c.wait.ensures in
    let weight : pages_due (insert h.maps.map k v) + due_of o ≡ pages_due h.maps.map + c.args.load.need =
    weigh-put due_of h.maps.map k o v there in
    let more : pages_due (insert h.maps.map k v) ≡ pages_due h.maps.map + c.args.load.need =
    omega (arith, weight, idle.undue) in
    ap pages_due maps ∙ more
