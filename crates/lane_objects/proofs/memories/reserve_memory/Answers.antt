use Rattle.std.proofs.Common.{◌/◌, ap, sym, ◌∙◌, subst, arith}
use Rattle.std.specs.FinMap.{contains_key}
use Rattle.lane_state.specs.Covered.{AreStanding, HasFramesOf, Reaches}
use Rattle.memory_pages.specs.Placed.{AreAtTheirFrames}
use Rattle.phys_memory.specs.Memory.{memory_has_frame}
use Rattle.lane_state.proofs.MapTables.{AreMaps, maps-of}
use Rattle.lane_state.proofs.Awaiting.{still-awaiting, still-ready}
use Rattle.lane_state.specs.Awaiting.{AreAwaiting, AreOfMaps}
use Rattle.lane_objects.proofs.memories.reserve_memory.Goals as goal

pub invariant_of-holdings-2 : goal.invariant_of-holdings-2
invariant_of-holdings-2 c =
    let h = c.args.holdings.now in
    let maps = ap (λ t. t.map) c.reserve.ensures.kept in
    let memories = ap (λ t. t.map) c.reserve-2.ensures.kept in
    let same = c.reserve-3.ensures.same in
    let memory = c.reserve-4.ensures.memory in
    let are = subst (λ ms. AreMaps ms h.loans.loans h.agenda.returns h.agenda.promised) (sym maps) (maps-of h) in
    record {
      covered = λ a. ap (λ b. contains_key b a) same.bytes ∙ h.covered a
          ∙ ap (λ m. memory_has_frame m (a / 4096)) (sym memory);
      reaches = subst (λ m. Reaches h.pages.now c.reserve-2.new.self.map m) (sym memory)
          (subst (λ t. Reaches h.pages.now t h.memory.memory) (sym memories) h.reaches);
      framed = subst (λ m. HasFramesOf h.pages.now m) (sym memory) h.framed;
      placed = subst AreAtTheirFrames (sym memory) h.placed;
      standing = subst (λ m. AreStanding c.reserve-2.new.self.map m) (sym memory)
          (subst (λ t. AreStanding t h.memory.memory) (sym memories) h.standing);
      tag_places = h.tag_places;
      map_places = omega (arith, ap (λ t. t.places) c.reserve.ensures.kept, h.map_places);
      memory_places = omega (arith, ap (λ t. t.places) c.reserve-2.ensures.kept, h.memory_places);
      ring_places = h.ring_places;
      loaded = λ k. ap (λ ls. contains_key ls k) same.loans ∙ are.loaded k;
      unlent = are.unlent;
      promised = are.promised;
      own_returns = h.own_returns;
      returning = are.returning;
      tried = are.tried;
      awaiting = subst (λ ms. AreAwaiting h.pages.now h.maxmem h.tags.map ms c.reserve-3.new.self.prepared) (sym maps)
          (still-awaiting h c.reserve-3.new.self.prepared same.prepared);
      ready = subst (λ t. AreOfMaps h.pages.now t c.reserve-3.new.self.prepared) (sym memories)
          (still-ready h c.reserve-3.new.self.prepared same.prepared);
    }
