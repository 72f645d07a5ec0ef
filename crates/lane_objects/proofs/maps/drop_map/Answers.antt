use Rattle.std.proofs.Common.{◌≡◌, None, refl, sym, ap, ◌∙◌, subst, arith}
use Rattle.std.specs.FinMap.{get, remove}
use Rattle.lane_state.specs.Held.{devices_of, held}
use Rattle.lane_state.specs.Ideal.{ideal_of}
use Rattle.lane_state.specs.Kept.{device_of, map_of}
use Rattle.lane_state.specs.MapValues.{map_values}
use Rattle.lane_state.proofs.Bytes.{devices-cut, held-alike}
use Rattle.lane_state.proofs.Keeping.{idle-there, on-some}
use Rattle.lane_state.proofs.MapTables.{AreMaps, maps-gone, maps-of}
use Rattle.lane_state.proofs.MapValues.{map_values-remove}
use Rattle.lane_state.proofs.Awaiting.{awaiting-cut}
use Rattle.lane_state.specs.Awaiting.{AreAwaiting}
use Rattle.lane_objects.proofs.maps.drop_map.Goals as goal

pub invariant_of-holdings : goal.invariant_of-holdings
invariant_of-holdings c =
    let h = c.args.holdings.now in
    let k = c.args.map in
    let idle = idle-there (get h.maps.map k) c.requires in
    let taken = on-some c.take.result idle.0 (c.take.ensures.value ∙ idle.1) c.take.ensures.taken in
    let are =
    subst (λ t. AreMaps t.map h.loans.loans h.agenda.returns h.agenda.promised) (sym taken)
    (maps-gone h.maps.map h.loans.loans h.agenda.returns h.agenda.promised (maps-of h) k idle.0 idle.1
    idle.2.unloaded idle.2.unlent idle.2.still idle.2.tried) in
    record {
      covered = h.covered;
      reaches = h.reaches;
      framed = h.framed;
      placed = h.placed;
      standing = h.standing;
      tag_places = h.tag_places;
      map_places = omega (arith, ap (λ t. t.places) taken, h.map_places);
      memory_places = h.memory_places;
      ring_places = h.ring_places;
      loaded = are.loaded;
      unlent = are.unlent;
      promised = are.promised;
      own_returns = h.own_returns;
      returning = are.returning;
      tried = are.tried;
      awaiting = subst (λ t. AreAwaiting h.pages.now h.maxmem h.tags.map t.map h.loans.prepared) (sym taken)
          (awaiting-cut h.pages.now h.maxmem h.tags.map h.maps.map h.loans.prepared h.awaiting k);
      ready = h.ready;
    }

pub returns-clause-done : goal.returns-clause-done
returns-clause-done c =
    let h = c.args.holdings.now in
    let l = ideal_of h in
    let k = c.args.map in
    let idle = idle-there (get h.maps.map k) c.requires in
    let taken = on-some c.take.result idle.0 (c.take.ensures.value ∙ idle.1) c.take.ensures.taken in
    let none : device_of None ≡ device_of (get h.maps.map k) = sym (ap device_of idle.1 ∙ idle.2.unheld) in
    (λ i. record l {
      maps = (ap (λ t. map_values map_of t.map) taken ∙ map_values-remove map_of h.maps.map k) i;
      memory = (ap (λ t. held h.loans.bytes h.loans.loans (devices_of t.map) h.memory.memory) taken
          ∙ held-alike h.loans.bytes h.loans.loans (devices_of h.maps.map) (devices_of (remove h.maps.map k))
          h.memory.memory (devices-cut h.maps.map k none)) i;
    })

pub returns-clause-bytes : goal.returns-clause-bytes
returns-clause-bytes c =
    let h = c.args.holdings.now in
    let k = c.args.map in
    let idle = idle-there (get h.maps.map k) c.requires in
    let taken = on-some c.take.result idle.0 (c.take.ensures.value ∙ idle.1) c.take.ensures.taken in
    let none : device_of None ≡ device_of (get h.maps.map k) = sym (ap device_of idle.1 ∙ idle.2.unheld) in
    record {
      own = refl;
      pages = λ m. ap (λ t. (devices_of t.map m).pages) taken ∙ ap (λ d. d.pages) (devices-cut h.maps.map k none m);
    }
