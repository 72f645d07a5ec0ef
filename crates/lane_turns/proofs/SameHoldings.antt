-- Holdings with the same fields are the same.
use Rattle.std.proofs.Common.{◌≡◌, ℕ, ◌≤◌, true, false}
use Rattle.std.proofs.Props.{props}
use mathlib.Core.HLevel.{is_prop→PathP}
use base.Stored.{Coded-set}
use Rattle.std.specs.FinMap.{get}
use Rattle.lane_state.specs.declared.holdings.Holdings.{Holdings}
use Rattle.lane_state.specs.Changes.{KeepsButAgenda}
use Rattle.phys_memory.specs.declared.reach.Reach.{Reach}
use Rattle.phys_memory.specs.contracts.reach.Reach as reach
use Rattle.phys_memory.specs.Memory.{FrameMemory}
use Rattle.memory_pages.specs.Placed.{AreAtTheirFrames, IsAtItsFrame}
use Rattle.lane_state.specs.Covered.{AreCoveredLoads, AreOwn, AreReturning}
use Rattle.lane_state.specs.Covered.{AreStanding, HasFramesOf, IsCovered, Reaches}
use Rattle.lane_state.specs.Awaiting.{AreAwaiting, AreOfMaps}
use Rattle.lane_state.specs.OneAwaiting.{AreAwaiting-prop}
use Rattle.lane_state.specs.Covered.{is_tried, lends_pages, pages_due}

IsAtItsFrame-prop : (m : FrameMemory) (v : ℕ) (r : Reach) → IsProp (IsAtItsFrame m v r)
IsAtItsFrame-prop m v r = hlevel (props)

pub same-all : (h k : Holdings) → KeepsButAgenda h k → k.agenda ≡ h.agenda → k ≡ h
same-all h k s agenda = λ i. record {
  script = s.most.script i;
  pages = s.most.pages i;
  id = s.most.id i;
  maxmem = s.most.maxmem i;
  memory = s.most.memory i;
  tags = s.tags i;
  maps = s.maps i;
  memories = s.most.memories i;
  rings = s.most.rings i;
  loans = s.most.loans i;
  agenda = agenda i;
  due = s.most.due i;
  shares = s.most.shares i;
  covered = is_prop→PathP (λ j. IsCovered (s.most.memory j).memory (s.most.loans j).bytes) (λ j. hlevel (props))
      k.covered
      h.covered i;
  reaches = is_prop→PathP (λ j. Reaches (s.most.pages j).now (s.most.memories j).map (s.most.memory j).memory)
      (λ j. hlevel (props))
      k.reaches h.reaches i;
  framed = is_prop→PathP (λ j. HasFramesOf (s.most.pages j).now (s.most.memory j).memory) (λ j. hlevel (props))
      k.framed
      h.framed i;
  placed = is_prop→PathP (λ j. AreAtTheirFrames (s.most.memory j).memory) (λ j. hlevel (props, IsAtItsFrame-prop))
      k.placed h.placed i;
  standing = is_prop→PathP (λ j. AreStanding (s.most.memories j).map (s.most.memory j).memory)
      (λ j. hlevel (props, Coded-set reach.the_row.coded)) k.standing h.standing i;
  tag_places = is_prop→PathP (λ j. (agenda j).length ≤ (s.tags j).places) (λ j. hlevel (props)) k.tag_places
      h.tag_places i;
  map_places = is_prop→PathP (λ j. (agenda j).length ≤ (s.maps j).places) (λ j. hlevel (props)) k.map_places
      h.map_places i;
  memory_places = is_prop→PathP (λ j. (agenda j).length ≤ (s.most.memories j).places) (λ j. hlevel (props))
      k.memory_places h.memory_places i;
  ring_places = is_prop→PathP (λ j. (agenda j).length ≤ (s.most.rings j).places) (λ j. hlevel (props)) k.ring_places
      h.ring_places i;
  loaded = is_prop→PathP (λ j. AreCoveredLoads (s.maps j).map (s.most.loans j).loans) (λ j. hlevel (props)) k.loaded
      h.loaded i;
  unlent = is_prop→PathP (λ j. (m : ℕ) → lends_pages (get (s.maps j).map m) ≡ false) (λ j. hlevel (props)) k.unlent
      h.unlent i;
  promised = is_prop→PathP (λ j. pages_due (s.maps j).map ≤ (agenda j).promised) (λ j. hlevel (props)) k.promised
      h.promised i;
  own_returns = is_prop→PathP (λ j. AreOwn (s.most.id j).0 (agenda j).returns) (λ j. hlevel (props)) k.own_returns
      h.own_returns i;
  returning = is_prop→PathP (λ j. AreReturning (s.maps j).map (agenda j).returns) (λ j. hlevel (props)) k.returning
      h.returning i;
  tried = is_prop→PathP (λ j. (m : ℕ) → is_tried (get (s.maps j).map m) ≡ true) (λ j. hlevel (props)) k.tried
      h.tried i;
  awaiting = is_prop→PathP (λ j. AreAwaiting (s.most.pages j).now (s.most.maxmem j) (s.tags j).map (s.maps j).map
      (s.most.loans j).prepared) (λ j. AreAwaiting-prop (s.most.pages j).now (s.most.maxmem j) (s.tags j).map
      (s.maps j).map (s.most.loans j).prepared) k.awaiting h.awaiting i;
  ready = is_prop→PathP (λ j. AreOfMaps (s.most.pages j).now (s.most.memories j).map (s.most.loans j).prepared)
      (λ j. hlevel (props)) k.ready h.ready i;
}
