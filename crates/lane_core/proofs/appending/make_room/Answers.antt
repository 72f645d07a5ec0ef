use Rattle.std.proofs.Common.{◌≡◌, ◌≤◌, ap, sym, ◌∙◌, subst, arith}
use Rattle.std.specs.FinMap.{get}
use Rattle.lane_state.specs.Awaiting.{AreAwaiting, AreOfMaps}
use Rattle.lane_state.specs.Covered.{AreCoveredLoads, AreOwn, AreReturning, AreStanding}
use Rattle.lane_state.specs.Covered.{Reaches, is_tried, lends_pages, pages_due}
use Rattle.lane_core.proofs.AppendingLaws.{roomier}
use Rattle.lane_core.proofs.appending.make_room.Goals as goal

pub invariant_of-holdings-2 : goal.invariant_of-holdings-2
invariant_of-holdings-2 c =
    let h = c.args.holdings.now in
    let tags = c.in_ok-extend.ensures.ok in
    let maps = c.in_ok-extend-2.ensures.ok in
    let mems = c.in_ok-extend-3.ensures.ok in
    let rings = c.in_ok-extend-4.ensures.ok in
    let agenda = roomier h.agenda c.extend-5.new.self c.args.items c.extend-5.result c.extend-5.ensures.ok
    c.extend-5.ensures.err in
    let same_tags = ap (λ t. t.map) tags in
    let same_maps = ap (λ t. t.map) maps in
    let same_mems = ap (λ t. t.map) mems in
    let length = agenda.length in
    let returns = agenda.returns in
    record {
      covered = h.covered;
      reaches = subst (λ t. Reaches h.pages.now t h.memory.memory) (sym same_mems) h.reaches;
      framed = h.framed;
      placed = h.placed;
      standing = subst (λ t. AreStanding t h.memory.memory) (sym same_mems) h.standing;
      tag_places = omega (arith, h.tag_places, length, ap (λ t. t.places) tags);
      map_places = omega (arith, h.map_places, length, ap (λ t. t.places) maps);
      memory_places = omega (arith, h.memory_places, length, ap (λ t. t.places) mems);
      ring_places = omega (arith, h.ring_places, length, ap (λ t. t.places) rings);
      loaded = subst (λ t. AreCoveredLoads t h.loans.loans) (sym same_maps) h.loaded;
      unlent = λ k. ap (λ t. lends_pages (get t k)) same_maps ∙ h.unlent k;
      promised = omega (arith, h.promised, agenda.promised, ap pages_due same_maps);
      own_returns = subst (AreOwn h.id.0) (sym returns) h.own_returns;
      returning = subst (λ rs. AreReturning c.extend-2.new.self.map rs) (sym returns)
          (subst (λ t. AreReturning t h.agenda.returns) (sym same_maps) h.returning);
      tried = λ k. ap (λ t. is_tried (get t k)) same_maps ∙ h.tried k;
      awaiting = subst (λ t. AreAwaiting h.pages.now h.maxmem t c.extend-2.new.self.map h.loans.prepared)
          (sym same_tags)
          (subst (λ t. AreAwaiting h.pages.now h.maxmem h.tags.map t h.loans.prepared) (sym same_maps) h.awaiting);
      ready = subst (λ t. AreOfMaps h.pages.now t h.loans.prepared) (sym same_mems) h.ready;
    }
