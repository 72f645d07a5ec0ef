use Rattle.std.proofs.Common.{◌≡◌, None, Some, false, refl, sym, ap, ◌∙◌, subst, arith}
use Rattle.std.specs.FinMap.{get, insert}
use Rattle.std.specs.Option.{option_map}
use Rattle.busdma_machine.specs.declared.name.ZoneId.{ZoneId}
use Rattle.ideal_lane.specs.Outcomes.{is_idle}
use Rattle.ideal_lane.specs.State.{Idle}
use Rattle.lane_state.specs.declared.kept.KeptMap.{KeptMap}
use Rattle.lane_state.specs.Held.{devices_of, held}
use Rattle.lane_state.specs.Ideal.{ideal_of}
use Rattle.lane_state.specs.Kept.{device_of, map_of, kept_stage}
use Rattle.lane_state.specs.MapValues.{map_values}
use Rattle.lane_state.proofs.Bytes.{devices-put, held-alike}
use Rattle.lane_state.proofs.Keeping.{idle-map}
use Rattle.lane_state.proofs.MapTables.{AreMaps, maps-new, maps-of}
use Rattle.lane_state.proofs.MapValues.{map_values-insert}
use Rattle.lane_state.proofs.Awaiting.{idle-unkept, put-awaiting}
use Rattle.lane_state.specs.Awaiting.{AreAwaiting}
use Rattle.lane_objects.proofs.maps.put_map.Goals as goal

pub invariant_of-holdings : goal.invariant_of-holdings
invariant_of-holdings c =
    let h = c.args.holdings.now in
    let k = c.place-place.result in
    let o : KeptMap = record { tag = c.args.tag; map = c.new-map.result } in
    let idle = idle-map o (ap (λ m. is_idle (kept_stage m.stage)) c.new-map.ensures) in
    let none : get h.maps.map k ≡ None = ap (get h.maps.map) c.place-place.ensures ∙ c.requires.vacant in
    let are =
    subst (λ t. AreMaps t.map h.loans.loans h.agenda.returns h.agenda.promised) (sym c.put.ensures)
    (maps-new h.maps.map h.loans.loans h.agenda.returns h.agenda.promised (maps-of h) k o none
    idle.unloaded idle.unlent idle.undue idle.still idle.tried) in
    record {
      covered = h.covered;
      reaches = h.reaches;
      framed = h.framed;
      placed = h.placed;
      standing = h.standing;
      tag_places = h.tag_places;
      map_places = omega (arith, ap (λ t. t.places) c.put.ensures, h.map_places);
      memory_places = h.memory_places;
      ring_places = h.ring_places;
      loaded = are.loaded;
      unlent = are.unlent;
      promised = are.promised;
      own_returns = h.own_returns;
      returning = are.returning;
      tried = are.tried;
      awaiting = subst (λ t. AreAwaiting h.pages.now h.maxmem h.tags.map t.map h.loans.prepared) (sym c.put.ensures)
          (put-awaiting h h.loans.prepared refl k o
          (idle-unkept (Some o) (ap (λ m. is_idle (kept_stage m.stage)) c.new-map.ensures)));
      ready = h.ready;
    }

pub returns-clause-done : goal.returns-clause-done
returns-clause-done c =
    let h = c.args.holdings.now in
    let l = ideal_of h in
    let k = c.place-place.result in
    let o : KeptMap = record { tag = c.args.tag; map = c.new-map.result } in
    let idle = idle-map o (ap (λ m. is_idle (kept_stage m.stage)) c.new-map.ensures) in
    let none : get h.maps.map k ≡ None = ap (get h.maps.map) c.place-place.ensures ∙ c.requires.vacant in
    let same : device_of (Some o) ≡ device_of (get h.maps.map k) = idle.unheld ∙ sym (ap device_of none) in
    (λ i. record l {
      maps = (ap (λ t. map_values map_of t.map) c.put.ensures ∙ map_values-insert map_of h.maps.map k o
          ∙ ap (λ m. insert l.maps k (map_of (record { tag = c.args.tag; map = m }))) c.new-map.ensures
          ∙ ap (λ p. insert l.maps p (record {
            tag = c.args.tag;
            zone = option_map (λ (z : ZoneId). z.0) c.args.zone;
            tried = false;
            stage = Idle;
          })) c.place-place.ensures) i;
      memory = (ap (λ t. held h.loans.bytes h.loans.loans (devices_of t.map) h.memory.memory) c.put.ensures
          ∙ held-alike h.loans.bytes h.loans.loans (devices_of h.maps.map) (devices_of (insert h.maps.map k o))
          h.memory.memory (devices-put h.maps.map k o same)) i;
    })

pub returns-clause-bytes : goal.returns-clause-bytes
returns-clause-bytes c =
    let h = c.args.holdings.now in
    let k = c.place-place.result in
    let o : KeptMap = record { tag = c.args.tag; map = c.new-map.result } in
    let idle = idle-map o (ap (λ m. is_idle (kept_stage m.stage)) c.new-map.ensures) in
    let none : get h.maps.map k ≡ None = ap (get h.maps.map) c.place-place.ensures ∙ c.requires.vacant in
    let same : device_of (Some o) ≡ device_of (get h.maps.map k) = idle.unheld ∙ sym (ap device_of none) in
    record {
      own = refl;
      pages = λ m. ap (λ t. (devices_of t.map m).pages) c.put.ensures
          ∙ ap (λ d. d.pages) (devices-put h.maps.map k o same m);
    }
