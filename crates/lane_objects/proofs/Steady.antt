-- A byte of a driver's own that stays when frames come and go elsewhere.
use Rattle.std.proofs.Common.{◌≡◌, ℕ, ◌+◌, ◌*◌, Bool, true, false, List, is_some, slice_get, unwrap_or}
use Rattle.std.proofs.Common.{refl, sym, ap, ◌∙◌, arith}
use Rattle.std.proofs.lemmas.Option.{slice_get-map}
use Rattle.std.specs.FinMap.{entries, entries_sorted, get-entries}
use Rattle.busdma_machine.specs.Machine.Page.{FrameBytes}
use Rattle.busdma_machine.specs.Machine.PageList.{page_address}
use Rattle.busdma_machine.specs.Machine.Wire.{Placed, with_bytes_of}
use Rattle.busdma_rules.specs.declared.position.Position.{Position}
use Rattle.busdma_rules.specs.Lending.Loans.{Loan, addresses_of, lent, loan_of, no_loan, to_write}
use Rattle.phys_memory.specs.Memory.{FrameMemory, wire}
use Rattle.ideal_lane.specs.State.{LaneState}
use Rattle.ideal_lane.specs.Syncs.{bounced_in}
use Rattle.ideal_lane.specs.Unloads.{pages_of}
use Rattle.ideal_wire.specs.Apart.{HoldsPage}
use Rattle.ideal_wire.specs.Centre.{IsAt, IsPlacedAt}
use Rattle.ideal_wire.specs.Traces.{bus_at, stage_at, traces_of}
use Rattle.ideal_wire.proofs.Faithful.Buses.{placed-buffers}
use Rattle.ideal_wire.proofs.Faithful.PlacedLoads.{Lies, ItsOwn, InPage, lies-of, load-of, own-place, place-of}
use Rattle.ideal_wire.proofs.Laid.Positions.{twin_of}
use Rattle.lane_state.specs.declared.holdings.Holdings.{Holdings}
use Rattle.lane_state.specs.Held.{byte_among, device_view, devices_of}
use Rattle.lane_state.specs.Ideal.{ideal_of}
use Rattle.lane_state.specs.Wire.{IsWired}
use Rattle.lane_state.proofs.ChangeLaws.{covered-alike}
use Rattle.lane_state.proofs.Keeping.{told-some}
use Rattle.lane_state.proofs.Lenders.{IsLent, lent-among}
use Rattle.lane_state.proofs.Lying.{chunks-same, pages-same}
use Rattle.lane_state.proofs.Reading.{unlent-byte}
use Rattle.lane_state.proofs.Views.{under-alike}

module _ (h : Holdings) (wired : IsWired h) where
  abbrev l : LaneState
  l = ideal_of h

  -- the place of a position of a loan that has the byte
  record Position-at (k i : ℕ) (p : Position) : Type 0 where
    placed : Placed
    found : IsPlacedAt (traces_of l) k i placed
    same : p.pa ≡ placed.pa
    bus : bus_at (devices_of h.maps.map k).chunks (0 + i) p.pa ≡ placed.bus

  position-at : (k i : ℕ) (p : Position) → IsAt l.loans k i p → Position-at k i p
  position-at k i p at =
      let buffers = placed-buffers (bounced_in (stage_at l k)) 0 (addresses_of (loan_of l.loans k).positions) in
      let t = twin_of (λ (q : Position). q.pa) (λ (t : Placed). t.pa) (loan_of l.loans k).positions (traces_of l k)
      (sym buffers) i p at in
      let s = place-of l wired.laid k i t.twin t.found in
      let x = load-of l wired.laid k i s.position s.at in
      let here : 0 + i ≡ i = omega arith in
      let chunks : (devices_of h.maps.map k).chunks ≡ x.bounced =
      chunks-same l wired.laid wired.apart h.maps.map refl h.unlent k ∙ ap bounced_in x.stage in
      record {
        placed = t.twin;
        found = t.found;
        same = t.same;
        bus = (λ j. bus_at (chunks j) (here j) (t.same j))
            ∙ sym (s.bus ∙ ap (λ g. bus_at (bounced_in g) i t.twin.pa) x.stage);
      }

  -- no byte that is not the driver's own is lent
  pub foreign-unlent : (a : ℕ) → is_some (l.memory a) ≡ false → lent to_write a l.loans ≡ false
  foreign-unlent a none = by (lent to_write a l.loans) refl
    where
      by : (b : Bool) → lent to_write a l.loans ≡ b → b ≡ false
      by false e = refl
      by true e =
          let r : IsLent (devices_of h.maps.map) (entries l.loans) a =
          lent-among (devices_of h.maps.map) (entries l.loans) a (entries_sorted l.loans) e in
          let loan : loan_of l.loans r.key ≡ r.loan =
          ap (λ o. unwrap_or o no_loan) (get-entries l.loans r.key ∙ r.found) in
          let p = position-at r.key r.place r.position
          (ap (λ (x : Loan). slice_get x.positions r.place) loan ∙ r.at) in
          let there = wired.laid.owned p.placed.pa (own-place l wired.laid r.key r.place p.placed p.found) in
          sym (sym none ∙ ap (λ q. is_some (l.memory q)) (sym r.same ∙ p.same) ∙ there)

  module _ (m : FrameMemory) (a : ℕ) (alike : wire m a ≡ wire h.memory.memory a) where
    -- the byte at the bus address of a position of that byte stays too
    view-steady : (k i : ℕ) (t : Placed) → IsPlacedAt (traces_of l) k i t → t.pa ≡ a →
        device_view (devices_of h.maps.map k) m t.bus ≡ device_view (devices_of h.maps.map k) h.memory.memory t.bus
    view-steady k i t at is = by (lies-of l wired.laid k i t at)
      where
        ps : List FrameBytes
        ps = (devices_of h.maps.map k).pages

        by : Lies l wired.laid k i t →
            with_bytes_of (devices_of h.maps.map k).pages (wire m) t.bus
            ≡ with_bytes_of (devices_of h.maps.map k).pages (wire h.memory.memory) t.bus
        by (ItsOwn e) =
            under-alike (devices_of h.maps.map k).pages (wire m) (wire h.memory.memory) t.bus
            (ap (wire m) (e ∙ is) ∙ alike ∙ ap (wire h.memory.memory) (sym (e ∙ is)))
        by (InPage x b) =
            let whole = b.whole in
            let low = b.low in
            let high = b.high in
            let has : HoldsPage l k b.index b.page =
            ap (λ s. slice_get (pages_of s) b.index) x.stage ∙ b.has_page in
            let q = told-some page_address (slice_get (devices_of h.maps.map k).pages b.index) b.page
            (sym (slice_get-map page_address (devices_of h.maps.map k).pages b.index)
            ∙ ap (λ xs. slice_get xs b.index) (pages-same l wired.laid wired.apart h.maps.map refl h.unlent k) ∙ has) in
            let address : 4096 * q.0.frame ≡ b.page = q.2 in
            covered-alike (devices_of h.maps.map k).pages b.index q.0 (wire m) (wire h.memory.memory) t.bus q.1
            (omega (arith, whole, low, high, address))

    -- what is held at a byte stays if the frames keep their byte there
    pub byte-steady : byte_among (devices_of h.maps.map) m (entries l.loans) a
        ≡ byte_among (devices_of h.maps.map) h.memory.memory (entries l.loans) a
    byte-steady = by (lent to_write a l.loans) refl
      where
        by : (b : Bool) → lent to_write a l.loans ≡ b → byte_among (devices_of h.maps.map) m (entries l.loans) a
            ≡ byte_among (devices_of h.maps.map) h.memory.memory (entries l.loans) a
        by false e =
            unlent-byte (devices_of h.maps.map) m (entries l.loans) a e ∙ alike
            ∙ sym (unlent-byte (devices_of h.maps.map) h.memory.memory (entries l.loans) a e)
        by true e =
            let r : IsLent (devices_of h.maps.map) (entries l.loans) a =
            lent-among (devices_of h.maps.map) (entries l.loans) a (entries_sorted l.loans) e in
            let loan : loan_of l.loans r.key ≡ r.loan =
            ap (λ o. unwrap_or o no_loan) (get-entries l.loans r.key ∙ r.found) in
            let p = position-at r.key r.place r.position
            (ap (λ (x : Loan). slice_get x.positions r.place) loan ∙ r.at) in
            r.is m ∙ ap (device_view (devices_of h.maps.map r.key) m) p.bus
            ∙ view-steady r.key r.place p.placed p.found (sym p.same ∙ r.same)
            ∙ sym (r.is h.memory.memory
            ∙ ap (device_view (devices_of h.maps.map r.key) h.memory.memory) p.bus)
