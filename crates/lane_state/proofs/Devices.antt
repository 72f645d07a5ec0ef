-- What a driver holds of a load that its device reaches.
use Rattle.std.proofs.Common.{◌≡◌, ℕ, ◌+◌, ◌*◌, ◌/◌, ◌^◌, ◌<◌, ◌≤◌, ◌==◌, ◌||◌, Bool, true, false, List, []}
use Rattle.std.proofs.Common.{◌∷◌, zero, suc, length, Some, is_some, slice_get, get_or, refl, sym}
use Rattle.std.proofs.Common.{ap, ◌∙◌, subst, arith}
use mathlib.Core.Logic.{∥∥₁_elim}
use Rattle.std.proofs.Props.{props}
use Rattle.std.proofs.lemmas.Bool.{le-leb, lt-ltb, eq-eqb}
use Rattle.std.proofs.lemmas.List.{length-map}
use Rattle.std.proofs.lemmas.Option.{slice_get-map, slice_get-get_or}
use Rattle.std.specs.List.{AllByRecursion, AllZip, list_any}
use Rattle.std.specs.FinMap.{get}
use Rattle.busdma_machine.specs.declared.machine.chunk.Chunk.{Chunk}
use Rattle.busdma_machine.specs.declared.machine.address.Segment.{Segment}
use Rattle.busdma_machine.specs.Bounce.MemoryRuns.{in_run}
use Rattle.busdma_machine.specs.Machine.Page.{FrameBytes}
use Rattle.busdma_machine.specs.Machine.PageList.{RoomyPages, page_frames, page_address, page_addresses}
use Rattle.busdma_machine.specs.Machine.Wire.{Placed, stretch}
use Rattle.device_model.specs.Access.{IsThere, bus_range}
use Rattle.device_model.proofs.Walk.{bytes_length}
use Rattle.lane_state.specs.declared.kept.KeptLoad.{KeptLoad}
use Rattle.dma_map.specs.MapView as held
use Rattle.busdma_rules.specs.Lending.Loans.{addresses_of, loan_of}
use Rattle.loan_table.specs.Table.{buffer_of}
use Rattle.phys_memory.specs.Frames.{AreApart}
use Rattle.phys_memory.specs.Memory.{FrameMemory, memory_has_frame}
use Rattle.busdma_rules.specs.Segments.Obeying.{segments_bytes}
use Rattle.busdma_rules.specs.Segments.Segmentation.{segment_bytes}
use Rattle.busdma_rules.specs.Segments.Trace.{bus_extent}
use Rattle.ideal_lane.specs.Outcomes.{is_loaded}
use Rattle.ideal_lane.specs.State.{LaneState}
use Rattle.ideal_lane.specs.Syncs.{bounced_in}
use Rattle.ideal_wire.specs.Apart.{HoldsPage}
use Rattle.ideal_wire.specs.Centre.{IsPlacedAt}
use Rattle.ideal_wire.specs.Laid.{IsInPage, IsLaid, LiesIn, is_behind}
use Rattle.ideal_wire.specs.Traces.{stage_in, stage_at, traces_of}
use Rattle.ideal_wire.specs.WireStep.{load_buses}
use Rattle.ideal_wire.proofs.Faithful.Buses.{placed-buffers}
use Rattle.ideal_wire.proofs.Faithful.BytesPut.{map_own, same_range}
use Rattle.ideal_wire.proofs.Faithful.Lent.{any_at}
use Rattle.ideal_wire.proofs.Faithful.PlacedLoads.{Lies, ItsOwn, InPage, lies-of, own-place}
use Rattle.ideal_wire.proofs.Laid.Positions.{found_one, of_range}
use Rattle.ideal_wire.proofs.Loads.Reaching.{all-from, byte-below}
use Rattle.lane_state.specs.declared.holdings.Holdings.{Holdings}
use Rattle.lane_state.specs.declared.kept.KeptMap.{KeptMap}
use Rattle.lane_state.specs.Covered.{has_load, is_lent, lends_pages}
use Rattle.lane_state.specs.Held.{devices_of}
use Rattle.lane_state.specs.Ideal.{ideal_of}
use Rattle.lane_state.specs.Kept.{device_in, device_of, map_of, kept_stage}
use Rattle.lane_state.specs.PagesLent.{HasPages, IsRangeReached}
use Rattle.lane_state.specs.Wire.{IsWired}
use Rattle.lane_state.proofs.Keeping.{told-some}
use Rattle.lane_state.proofs.Lying.{holds, pages-same}
use Rattle.lane_state.proofs.MapValues.{image-some}
use Rattle.lane_state.proofs.MarkedMemory.{marks-held, some-mark}

-- of chunks in pages, the one at a place lies in the page there
in-page-at : (cs : List Chunk) (pages : List ℕ) (i page : ℕ) (c : Chunk) → AllZip IsInPage cs pages →
    slice_get cs i ≡ Some c → slice_get pages i ≡ Some page → IsInPage c page
in-page-at [] pages i page c z h k = absurd (cc)
in-page-at (d ∷ cs) [] i page c z h k = absurd z
in-page-at (d ∷ cs) (p ∷ ps) zero page c z h k =
    subst (λ q. IsInPage c q) (found_one (Some p) p page refl k)
    (subst (λ q. IsInPage q p) (found_one (Some d) d c refl h) z.0)
in-page-at (d ∷ cs) (p ∷ ps) (suc i) page c z h k = in-page-at cs ps i page c z.1 h k

module _ (h : Holdings) (wired : IsWired h) where
  abbrev l : LaneState
  l = ideal_of h

  abbrev m : FrameMemory
  m = h.memory.memory

  -- a byte of the driver's own lies in one of its frames
  pub own-frame : (a : ℕ) → memory_has_frame m (a / 4096) ≡ is_some (l.memory a)
  own-frame a =
      sym (h.covered a)
      ∙ ap is_some (marks-held h.loans.bytes h.loans.loans (devices_of h.maps.map) h.memory.memory a)
      ∙ some-mark (l.memory a)

  pub own-low : (a : ℕ) → is_some (l.memory a) ≡ true → a < 2 ^ 42
  own-low a own =
      let one : IsProp (a < 4096 * l.maxmem) = hlevel (props) in
      let below : a < 4096 * l.maxmem =
      ∥∥₁_elim (wired.laid.only a own) one (byte-below l wired.laid wired.machine a) in
      let most = wired.machine.numbered in omega (arith, below, most)

  module _ (k : ℕ) where
    abbrev frames : List ℕ
    frames = page_frames (devices_of h.maps.map k).pages

    -- a frame of its pages is one that the map holds
    holds-frame : (i f : ℕ) → slice_get frames i ≡ Some f → HoldsPage l k i (4096 * f)
    holds-frame i f at =
        let p = told-some (λ (q : FrameBytes). q.frame) (slice_get (devices_of h.maps.map k).pages i) f
        (sym (slice_get-map (λ (q : FrameBytes). q.frame) (devices_of h.maps.map k).pages i) ∙ at) in
        subst (HoldsPage l k i) (ap (λ x. 4096 * x) p.2)
        (holds l wired.laid wired.apart h.maps.map refl h.unlent k i p.0 p.1)

    pub frames-apart : AreApart m frames
    frames-apart = record {
      differ = λ i j d before inside same.
          let one = wired.apart.one k k i j (4096 * get_or frames j d)
          (subst (λ f. HoldsPage l k i (4096 * f)) same
          (holds-frame i (get_or frames i d) (slice_get-get_or frames i d (omega (arith, before, inside)))))
          (holds-frame j (get_or frames j d) (slice_get-get_or frames j d inside)) in
          let at = one.1 in omega (arith, at, before);
      away = λ i d inside.
          let f : ℕ = get_or frames i d in
          let within : in_run (4096 * f) 1 (4096 * f) ≡ true =
          rw (le-leb (4096 * f) (4096 * f) (omega arith), lt-ltb (4096 * f) (4096 * f + 4096 * 1) (omega arith)) refl
          in
          let number : 4096 * f / 4096 ≡ f = omega arith in
          ap (memory_has_frame m) (sym number) ∙ own-frame (4096 * f)
          ∙ wired.apart.away k i (4096 * f) (4096 * f)
          (holds-frame i f (slice_get-get_or frames i d inside)) within;
    }

    -- a bus address of the load is there
    there-bus : (i : ℕ) (t : Placed) → IsPlacedAt (traces_of l) k i t → IsThere m frames t.bus
    there-bus i t at = by (lies-of l wired.laid k i t at)
      where
        or-true : (x y : Bool) → y ≡ true → (x || y) ≡ true
        or-true true y e = refl
        or-true false y e = e

        frame-at : (j page : ℕ) → HoldsPage l k j page → slice_get frames j ≡ Some (page / 4096)
        frame-at j page has =
            let p = told-some page_address (slice_get (devices_of h.maps.map k).pages j) page
            (sym (slice_get-map page_address (devices_of h.maps.map k).pages j)
            ∙ ap (λ ps. slice_get ps j) (pages-same l wired.laid wired.apart h.maps.map refl h.unlent k) ∙ has) in
            let is = p.2 in
            let number : p.0.frame ≡ page / 4096 = omega (arith, is) in
            slice_get-map (λ (q : FrameBytes). q.frame) (devices_of h.maps.map k).pages j
            ∙ ap (Rattle.std.specs.Option.option_map (λ (q : FrameBytes). q.frame)) p.1 ∙ ap Some number

        by : Lies l wired.laid k i t → IsThere m frames t.bus
        by (ItsOwn e) =
            let own = wired.laid.owned t.pa (own-place l wired.laid k i t at) in
            subst (IsThere m frames) (sym e) (record {
              numbered = own-low t.pa own;
              found = ap (λ b. b || list_any (λ f. t.pa / 4096 == f) frames) (own-frame t.pa ∙ own);
            })
        by (InPage x b) =
            let whole = b.whole in
            let low = b.low in
            let high = b.high in
            let c = in-page-at x.bounced x.pages b.index b.page b.chunk x.load.paged b.has_chunk b.has_page in
            let first : (bus_extent b.chunk).pa.0 < 2 ^ 42 = c.bus.numbered in
            let frame = c.frame in
            let same : b.page / 4096 ≡ t.bus / 4096 = omega (arith, whole, low, high) in
            let has : HoldsPage l k b.index b.page =
            ap (λ s. slice_get (Rattle.ideal_lane.specs.Unloads.pages_of s) b.index) x.stage ∙ b.has_page in
            record {
              numbered = omega (arith, whole, low, high, first, frame);
              found = or-true (memory_has_frame m (t.bus / 4096)) (list_any (λ f. t.bus / 4096 == f) frames)
                  (any_at (λ f. t.bus / 4096 == f) frames b.index (b.page / 4096) (frame-at b.index b.page has)
                  (eq-eqb (t.bus / 4096) (b.page / 4096) (sym same)));
            }

  -- ---- the load of a map
  module _ (k : ℕ) (o : KeptMap) (there : get h.maps.map k ≡ Some o) (on : has_load (Some o) ≡ true) where
    pub record Loading : Type 0 where
      pub bounced : List Chunk
      pub segments : List Segment
      pub pages : RoomyPages
      pub stage : o.map.stage ≡ held.loaded bounced segments pages
      pub load : IsLaid l k bounced segments (page_addresses pages.items)

    pub loading : Loading
    loading = by o.map.stage refl on (sym (ap lends_pages there) ∙ h.unlent k)
        (subst (LiesIn l k) (ap stage_in (image-some map_of h.maps.map k o there)) (wired.laid.each k))
      where
        by : (s : held.HeldStage KeptLoad) → o.map.stage ≡ s → is_loaded (kept_stage s) ≡ true → is_lent s ≡ false →
            LiesIn l k (kept_stage s) → Loading
        by held.idle e loaded unlent lies = absurd (cc)
        by (held.waiting load_at callback room) e loaded unlent lies = absurd (cc)
        by (held.loaded bounced segments pages) e loaded unlent lies = record {
          bounced = bounced;
          segments = segments;
          pages = pages;
          stage = e;
          load = lies;
        }
        by (held.lent bounced segments frames) e loaded unlent lies = absurd (cc)
        by held.returning e loaded unlent lies = absurd (cc)

    pub device-is : devices_of h.maps.map k ≡ device_in o.map.stage
    device-is = ap device_of there

    pub has-pages : HasPages m o.map.stage
    has-pages = record {
      loaded = ap held.state_of loading.stage;
      unlent = ap held.lent_frames loading.stage;
      apart = subst (λ d. AreApart m (page_frames d.pages)) device-is (frames-apart k);
    }

    -- a place of a range of its trace
    pub range-place : (off len i a : ℕ) → slice_get (load_buses l k off len) i ≡ Some a →
        (t : Placed) × IsPlacedAt (traces_of l) k (off + i) t × (t.bus ≡ a)
    range-place off len i a at =
        let t = told-some (λ (t : Placed). t.bus) (slice_get (stretch off len (traces_of l k)) i) a
        (sym (slice_get-map (λ (t : Placed). t.bus) (stretch off len (traces_of l k)) i) ∙ at) in
        (t.0, (of_range (traces_of l k) off len i t.0 t.1).whole, t.2)

    -- if the map's tag is not an IOMMU tag
    module _ (plain : is_behind l k ≡ false) where
      -- the bus addresses of a range of its segments are those of its trace
      pub range-buses : (off len : ℕ) → bus_range off len (held.segments_of o.map.stage) ≡ load_buses l k off len
      range-buses off len =
          ap (λ s. bus_range off len (held.segments_of s)) loading.stage
          ∙ sym (map_own (bus_range off len loading.segments))
          ∙ sym (same_range (λ (t : Placed). t.bus) (λ (a : ℕ). a) off len (traces_of l k)
          (segment_bytes loading.segments) (sym (loading.load.trace plain)
          ∙ sym (map_own (segment_bytes loading.segments))))

      pub bytes-long : segments_bytes (held.segments_of o.map.stage) ≡ length (buffer_of h.loans k)
      bytes-long =
          ap (λ s. segments_bytes (held.segments_of s)) loading.stage ∙ sym (bytes_length loading.segments)
          ∙ ap length (loading.load.trace plain) ∙ length-map (traces_of l k) (λ (t : Placed). t.bus)
          ∙ sym (length-map (traces_of l k) (λ (t : Placed). t.pa))
          ∙ ap length (placed-buffers (bounced_in (stage_at l k)) 0 (addresses_of (loan_of h.loans.loans k).positions))
          ∙ length-map (loan_of h.loans.loans k).positions (λ p. p.pa)

      pub is-reached : (off len : ℕ) → off + len ≤ length (buffer_of h.loans k) → IsRangeReached m o.map.stage off len
      is-reached off len range = record {
        pages = has-pages;
        range = let size = bytes-long in omega (arith, range, size);
        there = subst (AllByRecursion (IsThere m (page_frames (device_in o.map.stage).pages)))
            (sym (range-buses off len))
            (all-from (IsThere m (page_frames (device_in o.map.stage).pages)) (load_buses l k off len) (λ i a at.
            let t = range-place off len i a at in
            subst (λ d. IsThere m (page_frames d.pages) a) device-is
            (subst (IsThere m (frames k)) t.2 (there-bus k (off + i) t.0 t.1))));
      }
