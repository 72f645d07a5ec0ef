-- What a driver holds is its ideal memory, where its wire is faithful to that memory.
use Rattle.std.proofs.Common.{◌≡◌, ℕ, ◌+◌, Bool, true, false, Option, Some, None, is_some, refl, sym, ap, ◌∙◌, arith}
use Rattle.std.proofs.Common.{unwrap_or}
use Rattle.std.specs.Option.{option_map}
use Rattle.std.specs.Ordering.{nat_cmp}
use Rattle.std.specs.FinMap.{FinMap, get, entries, entries_sorted, get-entries}
use Rattle.busdma_machine.specs.Machine.Wire.{Wire, Placed, with_bytes_of}
use Rattle.busdma_rules.specs.Lending.Loans.{Loans, Loan, loan_of, no_loan, to_write, lent, addresses_of}
use Rattle.phys_memory.specs.Memory.{FrameMemory, wire}
use Rattle.ideal_lane.specs.IdealMemory.{IdealMemory, Content, Known, Unknown, known}
use Rattle.ideal_lane.specs.State.{LaneState}
use Rattle.ideal_lane.specs.Syncs.{bounced_in}
use Rattle.ideal_wire.specs.Apart.{IsApart}
use Rattle.ideal_wire.specs.Centre.{IsAt, IsFaithfulTo}
use Rattle.ideal_wire.specs.Laid.{AreLaid}
use Rattle.ideal_wire.specs.Traces.{stage_at, bus_at, traces_of}
use Rattle.ideal_wire.proofs.Faithful.Buses.{placed-buffers}
use Rattle.ideal_wire.proofs.Faithful.PlacedLoads.{load-of, place-of}
use Rattle.ideal_wire.proofs.Laid.Positions.{twin_of}
use Rattle.busdma_rules.specs.declared.position.Position.{Position}
use Rattle.lane_state.specs.declared.kept.KeptMap.{KeptMap}
use Rattle.lane_state.specs.Covered.{lends_pages}
use Rattle.lane_state.specs.Held.{byte_among, content_of, device_view, devices_of, held}
use Rattle.lane_state.specs.Kept.{map_of}
use Rattle.lane_state.specs.MapValues.{map_values}
use Rattle.lane_state.specs.Wire.{held_pages}
use Rattle.lane_state.proofs.Lenders.{IsLent, lent-among}
use Rattle.lane_state.proofs.Lying.{chunks-same, own-view, trace-view}
use Rattle.lane_state.proofs.Reading.{unlent-byte}

-- the mark of a byte: it is there, and Known or not
abbrev pub mark_of : Option Content → Option Bool
mark_of o = option_map (λ c. known (Some c)) o

-- marks are those of an ideal memory
abbrev pub AreMarks : FinMap nat_cmp Bool → IdealMemory → Type 0
AreMarks bytes memory = (a : ℕ) → get bytes a ≡ mark_of (memory a)

module _ (l : LaneState) (laid : AreLaid l) (apart : IsApart l) (maps : FinMap nat_cmp KeptMap)
    (same : map_values map_of maps ≡ l.maps) (unlent : (k : ℕ) → lends_pages (get maps k) ≡ false)
    (m : FrameMemory) where
  -- what is held, of a lane with these maps and frames
  abbrev pub now : Wire
  now = with_bytes_of (held_pages maps) (wire m)

  module _ (memory : IdealMemory) (loans : Loans) (faithful : IsFaithfulTo memory loans (traces_of l) now)
      (alike : (k : ℕ) → addresses_of (loan_of loans k).positions ≡ addresses_of (loan_of l.loans k).positions)
      (mine : (a : ℕ) → is_some (memory a) ≡ true → is_some (l.memory a) ≡ true) where
    -- where a position that lends a byte to write has it
    lent-byte : (k i v : ℕ) (p : Position) → IsAt loans k i p → p.to_write ≡ true → memory p.pa ≡ Some (Known v) →
        device_view (devices_of maps k) m (bus_at (devices_of maps k).chunks (0 + i) p.pa) ≡ v
    lent-byte k i v p at lends is =
        let buffers = placed-buffers (bounced_in (stage_at l k)) 0 (addresses_of (loan_of l.loans k).positions) in
        let t = twin_of (λ (q : Position). q.pa) (λ (t : Placed). t.pa) (loan_of loans k).positions (traces_of l k)
        (alike k ∙ sym buffers) i p at in
        let s = place-of l laid k i t.twin t.found in
        let x = load-of l laid k i s.position s.at in
        let here : 0 + i ≡ i = omega arith in
        let chunks : (devices_of maps k).chunks ≡ x.bounced =
        chunks-same l laid apart maps same unlent k ∙ ap bounced_in x.stage in
        let bus : bus_at (devices_of maps k).chunks (0 + i) p.pa ≡ t.twin.bus =
        (λ j. bus_at (chunks j) (here j) (t.same j))
        ∙ sym (s.bus ∙ ap (λ g. bus_at (bounced_in g) i t.twin.pa) x.stage) in
        ap (device_view (devices_of maps k) m) bus
        ∙ sym (trace-view l laid apart maps same unlent (wire m) k i t.twin t.found)
        ∙ faithful.agrees.written k i p t.twin v at t.found lends is

    known-byte : (a v : ℕ) → memory a ≡ Some (Known v) → (b : Bool) → lent to_write a loans ≡ b →
        byte_among (devices_of maps) m (entries loans) a ≡ v
    known-byte a v is false e =
        unlent-byte (devices_of maps) m (entries loans) a e
        ∙ sym (own-view l laid apart maps same unlent (wire m) a (mine a (ap is_some is)))
        ∙ faithful.agrees.kept a v e is
    known-byte a v is true e =
        let r : IsLent (devices_of maps) (entries loans) a =
        lent-among (devices_of maps) (entries loans) a (entries_sorted loans) e in
        let loan : loan_of loans r.key ≡ r.loan =
        ap (λ o. unwrap_or o no_loan) (get-entries loans r.key ∙ r.found) in
        r.is m ∙ lent-byte r.key r.place v r.position
        (ap (λ (x : Loan). Rattle.std.specs.Prelude.slice_get x.positions r.place) loan ∙ r.at) r.lends
        (ap memory r.same ∙ is)

    shown : (o : Option Content) (x : ℕ) → ((v : ℕ) → o ≡ Some (Known v) → x ≡ v) → content_of (mark_of o) x ≡ o
    shown None x h = refl
    shown (Some (Known v)) x h = ap (λ y. Some (Known y)) (h v refl)
    shown (Some Unknown) x h = refl

    -- what is held is the ideal memory
    pub held-is : (bytes : FinMap nat_cmp Bool) → AreMarks bytes memory →
        held bytes loans (devices_of maps) m ≡ memory
    held-is bytes marks = λ i a. (at a) i
      where
        at : (a : ℕ) → held bytes loans (devices_of maps) m a ≡ memory a
        at a =
            ap (λ o. content_of o (byte_among (devices_of maps) m (entries loans) a)) (marks a)
            ∙ shown (memory a) (byte_among (devices_of maps) m (entries loans) a)
            (λ v is. known-byte a v is (lent to_write a loans) refl)
