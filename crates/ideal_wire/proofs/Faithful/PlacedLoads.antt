-- The loads of a driver are placed if what it holds is apart.
use Rattle.std.proofs.Common.{◌≡◌, ℕ, ◌+◌, ◌-◌, ◌*◌, ◌<◌, ◌≤◌, ◌&&◌, ◌||◌, Bool, true, false, cond, List, [], ◌∷◌}
use Rattle.std.proofs.Common.{Option, Some, None, slice_get, is_some, inl, inr, refl, ap, sym, ◌∙◌, subst, arith}
use Rattle.std.proofs.Common.{nat_le, nat_lt}
use Rattle.std.proofs.lemmas.Bool.{and_parts, false≢true, leb-true, ltb-true, le-leb, lt-ltb}
use Rattle.std.specs.FinMap.{get, entries, entries_sorted, get-entries}
use Rattle.busdma_machine.specs.declared.machine.chunk.Chunk.{Chunk}
use Rattle.busdma_machine.specs.declared.machine.address.Segment.{Segment}
use Rattle.busdma_base.specs.declared.scenarios.scenario.PageRun.{PageRun}
use Rattle.busdma_machine.specs.Bounce.MemoryRuns.{in_run}
use Rattle.busdma_machine.specs.Machine.VirtualPages.{pages_end}
use Rattle.busdma_base.specs.Scenarios.PageRuns.{is_own, is_in_run, physical_in}
use Rattle.busdma_machine.specs.Machine.Wire.{Placed}
use Rattle.busdma_rules.specs.declared.position.Position.{Position}
use Rattle.busdma_rules.specs.Lending.Loans.{Loan, loan_of, no_loan, addresses_of}
use Rattle.ideal_lane.specs.Loads.{is_coherent}
use Rattle.ideal_lane.specs.Places.{physical, or_in_memory, is_memory_byte, is_in_memory}
use Rattle.ideal_lane.specs.State.{LaneState, LaneMemory, Stage, Idle, Waiting, Loaded, Returning}
use Rattle.ideal_lane.specs.Syncs.{bounced_in}
use Rattle.ideal_lane.specs.Unloads.{pages_of}
use Rattle.ideal_wire.specs.Apart.{HoldsPage, IsApart}
use Rattle.ideal_wire.specs.Centre.{IsAt, IsPlacedAt}
use Rattle.ideal_wire.specs.Laid.{is_loadable, IsLaid, LiesIn, IsOwnByte, OfPages, OfMemory, AreLaid}
use Rattle.ideal_wire.specs.Traces.{stage_at, bus_at, traces_of}
use Rattle.ideal_wire.proofs.Faithful.Buses.{IsBounced, bus-cases, placed-at, placed-buffers}
use Rattle.ideal_wire.proofs.Faithful.Lent.{any_entry}
use Rattle.ideal_wire.proofs.Faithful.PlacedWires.{ArePlaced}
use Rattle.ideal_wire.proofs.Laid.Positions.{found_one, twin_of}

-- what the driver reaches by its pages is one of their bytes
within : (va first frame count : ℕ) → (nat_le first va && nat_lt va (first + 4096 * count)) ≡ true →
    (nat_le (4096 * frame) (4096 * frame + (va - first))
    && nat_lt (4096 * frame + (va - first)) (4096 * (frame + count))) ≡ true
within va first frame count h =
    let parts = and_parts (nat_le first va) (nat_lt va (first + 4096 * count)) h in
    let low : first ≤ va = leb-true first va parts.0 in
    let high : va < first + 4096 * count = ltb-true va (first + 4096 * count) parts.1 in
    rw (
      le-leb (4096 * frame) (4096 * frame + (va - first)) (omega arith),
      lt-ltb (4096 * frame + (va - first)) (4096 * (frame + count)) (omega (arith, low, high)),
    ) refl

pub reached-own : (runs : List PageRun) (va pa : ℕ) → physical_in runs va ≡ Some pa → is_own runs pa ≡ true
reached-own [] va pa h = absurd (cc)
reached-own (r ∷ runs) va pa h = by (is_in_run va r) refl (reached-own runs va pa) h
  where
    or-true : (a b : Bool) → b ≡ true → (a || b) ≡ true
    or-true true b h = refl
    or-true false b h = h

    by : (b : Bool) → is_in_run va r ≡ b → (physical_in runs va ≡ Some pa → is_own runs pa ≡ true) →
        cond b (Some (4096 * r.frame + (va - r.va.0))) (physical_in runs va) ≡ Some pa → is_own (r ∷ runs) pa ≡ true
    by true e rest h =
        let at : 4096 * r.frame + (va - r.va.0) ≡ pa =
        found_one (Some (4096 * r.frame + (va - r.va.0))) (4096 * r.frame + (va - r.va.0)) pa refl h in
        ap (is_own (r ∷ runs)) (sym at) ∙ ap (λ b. b || is_own runs (4096 * r.frame + (va - r.va.0)))
        (within va r.va.0 r.frame r.count e)
    by false e rest h = or-true _ _ (rest h)

module _ (l : LaneState) (laid : AreLaid l) where
  -- a byte that a map may load is reached
  pub loadable-own : (m b : ℕ) → is_loadable (get l.mems m) l b ≡ true → IsOwnByte l b
  loadable-own m b h = by (get l.mems m) refl h
    where
      by : (o : Option LaneMemory) → get l.mems m ≡ o → is_loadable o l b ≡ true → IsOwnByte l b
      by None e g = OfPages g
      by (Some x) e g = OfMemory m x e g

  -- the driver reaches only its own bytes
  pub reaches : (va pa : ℕ) → physical l va ≡ Some pa → IsOwnByte l pa
  reaches va pa h = by (physical_in l.pages va) refl h
    where
      memory : (b : Bool) → is_memory_byte l va ≡ b → cond b (Some (va - pages_end)) None ≡ Some pa → IsOwnByte l pa
      memory false e g = absurd (cc)
      memory true e g =
          let x = any_entry (λ q. is_in_memory va q.1) (entries l.mems) (entries_sorted l.mems) e in
          let there : get l.mems x.key ≡ Some x.value = get-entries l.mems x.key ∙ x.found in
          let run = laid.runs x.key x.value there in
          let begin : ℕ = pages_end + x.value.first in
          let parts = and_parts (nat_le begin va) (nat_lt va (begin + x.value.len)) x.passes in
          let low : begin ≤ va = leb-true begin va parts.0 in
          let high : va < begin + x.value.len = ltb-true va (begin + x.value.len) parts.1 in
          let is : va - pages_end ≡ pa = found_one (Some (va - pages_end)) (va - pages_end) pa refl g in
          let room : x.value.len ≤ 4096 * x.value.count = run.room in
          OfMemory x.key x.value there
          (rw (
            le-leb x.value.first pa (omega (arith, low, is)),
            lt-ltb pa (x.value.first + 4096 * x.value.count) (omega (arith, low, high, is, room)),
          ) refl)

      by : (o : Option ℕ) → physical_in l.pages va ≡ o → or_in_memory l va o ≡ Some pa → IsOwnByte l pa
      by None e g = memory (is_memory_byte l va) refl g
      by (Some x) e g =
          OfPages (reached-own l.pages va pa (e ∙ ap Some (found_one (Some x) x pa refl g)))

  -- a map with a position is loaded
  pub record Load (m : ℕ) : Type 0 where
    pub bounced : List Chunk
    pub segments : List Segment
    pub pages : List ℕ
    pub stage : stage_at l m ≡ Loaded bounced segments pages
    pub load : IsLaid l m bounced segments pages

  pub load-of : (m i : ℕ) (p : Position) → IsAt l.loans m i p → Load m
  load-of m i p h = by (stage_at l m) refl (laid.each m)
    where
      none : loan_of l.loans m ≡ no_loan → ⊥
      none e = let gone : slice_get [] i ≡ Some p = sym (ap (λ (x : Loan). slice_get x.positions i) e) ∙ h in cc

      by : (s : Stage) → stage_at l m ≡ s → LiesIn l m s → Load m
      by Idle e g = absurd (none g)
      by (Waiting w) e g = absurd (none g.unlent)
      by (Loaded cs ss ps) e g = record { bounced = cs; segments = ss; pages = ps; stage = e; load = g }
      by Returning e g = absurd (none g)

  -- a place of a trace
  pub record Place (m i : ℕ) (t : Placed) : Type 0 where
    pub position : Position
    pub at : IsAt l.loans m i position
    pub same : position.pa ≡ t.pa
    pub bus : t.bus ≡ bus_at (bounced_in (stage_at l m)) i t.pa

  pub place-of : (m i : ℕ) (t : Placed) → IsPlacedAt (traces_of l) m i t → Place m i t
  place-of m i t h =
      let s = placed-at (bounced_in (stage_at l m)) 0 (addresses_of (loan_of l.loans m).positions) i t h in
      let q = twin_of (λ (b : ℕ). b) (λ (p : Position). p.pa) (addresses_of (loan_of l.loans m).positions)
      (loan_of l.loans m).positions (Rattle.ideal_wire.proofs.Faithful.BytesPut.map_own _) i t.pa s.0 in
      let from : 0 + i ≡ i = omega arith in
      record {
        position = q.twin;
        at = q.found;
        same = sym q.same;
        bus = s.1 ∙ ap (λ k. bus_at (bounced_in (stage_at l m)) k t.pa) from;
      }

  pub own-place : (m i : ℕ) (t : Placed) → IsPlacedAt (traces_of l) m i t → IsOwnByte l t.pa
  own-place m i t h =
      let s = place-of m i t h in
      let x = load-of m i s.position s.at in
      loadable-own m t.pa (ap (is_loadable (get l.mems m) l) (sym s.same) ∙ x.load.bytes i s.position s.at)

  -- the bus address of a place is the byte's own, or lies in a page of the map
  pub data Lies (m i : ℕ) (t : Placed) : Type 0 where
    ItsOwn : t.bus ≡ t.pa → Lies m i t
    InPage : (x : Load m) → IsBounced x.bounced x.pages i t.bus → Lies m i t

  pub lies-of : (m i : ℕ) (t : Placed) → IsPlacedAt (traces_of l) m i t → Lies m i t
  lies-of m i t h =
      let s = place-of m i t h in
      let x = load-of m i s.position s.at in
      let bus : t.bus ≡ bus_at x.bounced i t.pa = s.bus ∙ ap (λ g. bus_at (bounced_in g) i t.pa) x.stage in
      elim (bus-cases x.bounced x.pages i t.pa x.load.paged) as (λ _. Lies m i t) [
        | inl e ↦ ItsOwn (bus ∙ e)
        | inr e ↦ InPage x (subst (IsBounced x.bounced x.pages i) (sym bus) e)
      ]

  module _ (apart : IsApart l) where
    -- the page that has a place of a load
    holds-page : (m k b : ℕ) (x : Load m) (e : IsBounced x.bounced x.pages k b) → HoldsPage l m e.index e.page
    holds-page m k b x e = ap (λ s. slice_get (pages_of s) e.index) x.stage ∙ e.has_page

    -- a bus address in a page is none of the driver's own bytes
    page-apart : (m k b : ℕ) (x : Load m) → IsBounced x.bounced x.pages k b → is_some (l.memory b) ≡ true → ⊥
    page-apart m k b x e o = false≢true (sym (apart.away m e.index e.page b (holds-page m k b x e) inside) ∙ o)
      where
        inside : in_run e.page 1 b ≡ true
        inside = let high : b < e.page + 4096 * 1 = omega (arith, e.high) in
            rw (le-leb e.page b e.low, lt-ltb b (e.page + 4096 * 1) high) refl

    -- a bus address in a page belongs to one place of one map
    page-one : (m n k j b d : ℕ) (x : Load m) (y : Load n) → IsBounced x.bounced x.pages k b →
        IsBounced y.bounced y.pages j d → b ≡ d → (m ≡ n) × (k ≡ j)
    page-one m n k j b d x y e g same = (one.0, place)
      where
        page : g.page ≡ e.page
        page = omega (arith, e.whole, e.low, e.high, g.whole, g.low, g.high, same)

        one : (m ≡ n) × (e.index ≡ g.index)
        one = apart.one m n e.index g.index e.page (holds-page m k b x e)
            (holds-page n j d y g ∙ ap (λ q. Some q) page)

        chunks : x.bounced ≡ y.bounced
        chunks = sym (ap bounced_in x.stage) ∙ ap (λ i. bounced_in (stage_at l i)) one.0 ∙ ap bounced_in y.stage

        place : k ≡ j
        place =
            let there : slice_get x.bounced e.index ≡ Some g.chunk = ap (slice_get x.bounced) one.1
            ∙ ap (λ cs. slice_get cs g.index) chunks ∙ g.has_chunk in
            let chunk : e.chunk ≡ g.chunk = found_one (slice_get x.bounced e.index) e.chunk g.chunk e.has_chunk
            there in
            let base = ap (λ (c : Chunk). (Rattle.busdma_rules.specs.Segments.Trace.bus_extent c).pa.0) chunk in
            let at = ap (λ (c : Chunk). c.at) chunk in
            omega (arith, e.bus_is, g.bus_is, e.behind, g.behind, base, at, same)

    abbrev pub own : ℕ → Bool
    own b = is_some (l.memory b)

    not-own : (m i : ℕ) (t : Placed) → IsPlacedAt (traces_of l) m i t → own t.bus ≡ false → t.bus ≡ t.pa → ⊥
    not-own m i t h o e =
        false≢true (sym o ∙ ap own e ∙ laid.owned t.pa (own-place m i t h))

    unbounced-at : (m i : ℕ) (t : Placed) → own t.bus ≡ true → Lies m i t → t.bus ≡ t.pa
    unbounced-at m i t o (ItsOwn e) = e
    unbounced-at m i t o (InPage x e) =
        absurd (page-apart m i t.bus x e o)

    paged-at : (m n i j : ℕ) (t u : Placed) → IsPlacedAt (traces_of l) m i t → IsPlacedAt (traces_of l) n j u →
        t.bus ≡ u.bus → own t.bus ≡ false → Lies m i t → Lies n j u → (m ≡ n) × (i ≡ j)
    paged-at m n i j t u h k e o (ItsOwn s) r = absurd (not-own m i t h o s)
    paged-at m n i j t u h k e o (InPage x s) (ItsOwn r) = absurd (not-own n j u k (sym (ap own e) ∙ o) r)
    paged-at m n i j t u h k e o (InPage x s) (InPage y r) =
        page-one m n i j t.bus u.bus x y s r e

    -- a coherent map is that of a memory
    memory-of : (m : ℕ) → is_coherent (get l.mems m) ≡ true → is_some (get l.mems m) ≡ true
    memory-of m h = by (get l.mems m) h
      where
        by : (o : Option LaneMemory) → is_coherent o ≡ true → is_some o ≡ true
        by None g = absurd (cc)
        by (Some x) g = refl

    coherent-at : (m i : ℕ) (t : Placed) → (loan_of l.loans m).coherent ≡ true → IsPlacedAt (traces_of l) m i t →
        t.bus ≡ t.pa
    coherent-at m i t c h =
        let s = place-of m i t h in
        let x = load-of m i s.position s.at in
        let none : x.bounced ≡ [] = x.load.direct (memory-of m (sym x.load.coherent ∙ c)) in
        s.bus ∙ ap (λ g. bus_at (bounced_in g) i t.pa) x.stage ∙ ap (λ cs. bus_at cs i t.pa) none

    apart-at : (m n i j : ℕ) (p q : Position) → (loan_of l.loans m).coherent ≡ true → IsAt l.loans m i p →
        IsAt l.loans n j q → p.pa ≡ q.pa → m ≡ n
    apart-at m n i j p q c h k e =
        let x = load-of m i p h in
        let y = load-of n j q k in
        by (get l.mems m) (get l.mems n) refl refl (memory-of m (sym x.load.coherent ∙ c))
        (x.load.bytes i p h) (ap (is_loadable (get l.mems n) l) e ∙ y.load.bytes j q k)
      where
        by : (o r : Option LaneMemory) → get l.mems m ≡ o → get l.mems n ≡ r → is_some o ≡ true →
            is_loadable o l p.pa ≡ true → is_loadable r l p.pa ≡ true → m ≡ n
        by None r s t some first second = absurd (cc)
        by (Some x) None s t some first second = absurd (false≢true (sym (apart.pages m p.pa x s first) ∙ second))
        by (Some x) (Some y) s t some first second = apart.memories m n p.pa x y s t first second

    pub are-placed : ArePlaced own l (traces_of l)
    are-placed = record {
      reached = λ va pa h. laid.owned pa (reaches va pa h);
      known = λ b v h. ap is_some h;
      buffer = λ m. placed-buffers (bounced_in (stage_at l m)) 0 (addresses_of (loan_of l.loans m).positions);
      lies = λ m i t h. laid.owned t.pa (own-place m i t h);
      unbounced = λ m i t h o. unbounced-at m i t o (lies-of m i t h);
      paged = λ m n i j t u h k e o. paged-at m n i j t u h k e o (lies-of m i t h) (lies-of n j u k);
      coherent = coherent-at;
      apart = apart-at;
    }
