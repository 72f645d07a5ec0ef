use Rattle.std.proofs.Common.{refl, ◌≡◌, Some, sym, ap, ◌∙◌, subst}
use Rattle.std.specs.FinMap.{get, insert}
use Rattle.dma_map.specs.MapView.{state_of}
use Rattle.lane_state.specs.declared.kept.KeptMap.{KeptMap}
use Rattle.lane_state.specs.Awaiting.{kept_load}
use Rattle.lane_state.proofs.Called.{kept-load}
use Rattle.lane_state.proofs.MapTables.{AreMaps, maps-of}
use Rattle.lane_state.proofs.Returned.{idled}
use Rattle.lane_state.proofs.TakenLoads.{maps-taken}
use Rattle.lane_state.proofs.Awaiting.{put-awaiting}
use Rattle.lane_state.specs.Awaiting.{AreAwaiting}
use Rattle.lane_loads.proofs.ended_waits.take_load.Goals as goal

pub take_waiting-requires : goal.take_waiting-requires
take_waiting-requires c =
    let o : KeptMap = c.in_ok-kept.kept.now in
    ap state_of (kept-load c.args.holdings.now c.args.map o (sym c.in_ok-kept.ensures.value) c.requires).is

pub invariant_of-holdings-2 : goal.invariant_of-holdings-2
invariant_of-holdings-2 c =
    let h = c.args.holdings.now in
    let k = c.args.map in
    let o : KeptMap = c.in_ok-kept.kept.now in
    let there : get h.maps.map k ≡ Some o = sym c.in_ok-kept.ensures.value in
    let load = kept-load h k o there c.requires in
    let maps : insert h.maps.map k (record o { map = c.take_waiting.new.self }) ≡ insert h.maps.map k (idled o) =
    ap (λ x. insert h.maps.map k (record o { map = x })) c.take_waiting.ensures.idle in
    let are =
    subst (λ ms. AreMaps ms h.loans.loans h.agenda.returns h.agenda.promised) (sym maps)
    (maps-taken h.maps.map h.loans.loans h.agenda.returns h.agenda.promised (maps-of h) k o there load) in
    record {
      covered = h.covered;
      reaches = h.reaches;
      framed = h.framed;
      placed = h.placed;
      standing = h.standing;
      tag_places = h.tag_places;
      map_places = h.map_places;
      memory_places = h.memory_places;
      ring_places = h.ring_places;
      loaded = are.loaded;
      unlent = are.unlent;
      promised = are.promised;
      own_returns = h.own_returns;
      returning = are.returning;
      tried = are.tried;
      awaiting = subst (λ ms. AreAwaiting h.pages.now h.maxmem h.tags.map ms h.loans.prepared) (sym maps)
          (put-awaiting h h.loans.prepared refl k (idled o) refl);
      ready = h.ready;
    }

pub returns-clause-load : goal.returns-clause-load
returns-clause-load c =
    sym (ap kept_load (sym c.in_ok-kept.ensures.value) ∙ c.take_waiting.ensures.taken)

pub returns-clause-maps : goal.returns-clause-maps
returns-clause-maps c other found =
    let h = c.args.holdings.now in
    let k = c.args.map in
    let o : KeptMap = c.in_ok-kept.kept.now in
    let there : get h.maps.map k ≡ Some o = sym c.in_ok-kept.ensures.value in
    let same : o ≡ other = cc in
    ap (λ x. insert h.maps.map k (record o { map = x })) c.take_waiting.ensures.idle
    ∙ ap (λ x. insert h.maps.map k (idled x)) same
