-- What an access of the device is, by what is there, and what its read has.
use Rattle.std.proofs.Common.{◌≡◌, ℕ, ◌+◌, ◌≤◌, true, false, List, length, map, Option, Some, None, refl, sym, ap, ◌∙◌}
use Rattle.std.proofs.lemmas.Bool.{le-leb}
use Rattle.std.specs.FinMap.{get}
use Rattle.busdma_base.specs.declared.journals.answer.Answer.TheVariants as answer
use Rattle.busdma_machine.specs.declared.report.Judged.TheVariants.{Fine, Refused}
use Rattle.busdma_machine.specs.declared.report.Report.{Report}
use Rattle.busdma_machine.specs.declared.report.ReportName.TheVariants.{Absent, NotLoaded}
use Rattle.busdma_rules.specs.Lending.Access.{dev_read_answer}
use Rattle.busdma_rules.specs.Lending.Loans.{load_bytes, loan_of}
use Rattle.loan_table.specs.Table.{buffer_of, is_marked_known}
use Rattle.device_model.specs.Access.{bus_range}
use Rattle.dma_map.specs.MapView.{segments_of}
use Rattle.ideal_lane.specs.Accesses.{dev_read, values}
use Rattle.ideal_lane.specs.Asking.{Asking}
use Rattle.ideal_lane.specs.IdealMemory as ideal
use Rattle.ideal_lane.specs.Outcomes.{Outcome, gives, is_loaded, load_length, unless_past, unless_refused}
use Rattle.ideal_lane.specs.Outcomes.{unless_unloaded}
use Rattle.ideal_lane.specs.State.{LaneState, LaneMap}
use Rattle.ideal_wire.specs.Laid.{is_behind}
use Rattle.ideal_wire.specs.Traces.{traces_of}
use Rattle.ideal_wire.specs.WireStep.{load_buses}
use Rattle.ideal_wire.proofs.Faithful.BytesPut.{same_reads}
use Rattle.ideal_wire.proofs.Faithful.FaithfulAccess.{dev_read_of}
use Rattle.ideal_wire.proofs.Faithful.PlacedLoads.{own}
use Rattle.ideal_wire.proofs.Faithful.Wiring.{faithful}
use Rattle.lane_state.specs.declared.holdings.Holdings.{Holdings}
use Rattle.lane_state.specs.declared.kept.KeptMap.{KeptMap}
use Rattle.lane_state.specs.Covered.{has_load}
use Rattle.lane_state.specs.Held.{device_view, devices_of}
use Rattle.lane_state.specs.Ideal.{ideal_of}
use Rattle.lane_state.specs.Kept.{device_in, map_of}
use Rattle.lane_state.specs.Wire.{IsWired, wire_of}
use Rattle.lane_state.proofs.Devices.{device-is, range-buses, range-place}
use Rattle.lane_state.proofs.Lying.{trace-view}
use Rattle.lane_state.proofs.MapValues.{image-some}
use Rattle.lane_state.proofs.Reading.{known-held, passes, refused}
use Rattle.phys_memory.specs.Memory.{wire}

-- a map with a load is there
pub load-there : (o : Option KeptMap) → has_load o ≡ true → (x : KeptMap) × (o ≡ Some x) × (has_load (Some x) ≡ true)
load-there None h = absurd (cc)
load-there (Some x) h = (x, refl, h)

-- the refusals of a range of a load
module _ (l : LaneState) (k : ℕ) where
  pub not-there : get l.maps k ≡ None → (step : LaneMap → Asking Outcome) →
      unless_unloaded k l step ≡ gives l (answer.Report (record { name = Absent; at = 0 }))
  not-there none step = rw none refl

  pub none-loaded : (o : LaneMap) → get l.maps k ≡ Some o → is_loaded o.stage ≡ false →
      (step : LaneMap → Asking Outcome) →
      unless_unloaded k l step ≡ gives l (answer.Report (record { name = NotLoaded; at = 0 }))
  none-loaded o there off step = rw (there, off) refl

  pub loads : (o : LaneMap) → get l.maps k ≡ Some o → is_loaded o.stage ≡ true → (step : LaneMap → Asking Outcome) →
      unless_unloaded k l step ≡ step o
  loads o there on step = rw (there, on) refl

  pub ends : (off len : ℕ) → off + len ≤ load_length l k → (step : Asking Outcome) → unless_past k off len l step ≡
      step
  ends off len h step = rw (le-leb (off + len) (load_length l k) h) refl

  module _ (o : LaneMap) (there : get l.maps k ≡ Some o) (on : is_loaded o.stage ≡ true) where
    -- the range reaches past the end
    pub dev_read-past : (off len : ℕ) (r : Report) →
        ((step : Asking Outcome) → unless_past k off len l step ≡ gives l (answer.Report r)) →
        gives l (answer.Report r) ≡ dev_read k off len l
    dev_read-past off len r h =
        sym (h (unless_refused (dev_read_answer (ideal.is_known l.memory) (loan_of l.loans k) off len) l
        (gives l (answer.Bytes (values l (load_bytes l.loans k off len))))))
        ∙ sym (loads o there on _)

    -- the step of a read within the load
    pub dev_read-within : (off len : ℕ) → off + len ≤ load_length l k →
        dev_read k off len l
        ≡ unless_refused (dev_read_answer (ideal.is_known l.memory) (loan_of l.loans k) off len) l
        (gives l (answer.Bytes (values l (load_bytes l.loans k off len))))
    dev_read-within off len h = loads o there on _ ∙ ends off len h _

-- ---- a read within the load of a map
module _ (h : Holdings) (k off len : ℕ) (on : has_load (get h.maps.map k) ≡ true)
    (range : off + len ≤ length (buffer_of h.loans k)) where
  abbrev l : LaneState
  l = ideal_of h

  kept : (x : KeptMap) × (get h.maps.map k ≡ Some x) × (has_load (Some x) ≡ true)
  kept = load-there (get h.maps.map k) on

  within : dev_read k off len l
      ≡ unless_refused (dev_read_answer (ideal.is_known l.memory) (loan_of l.loans k) off len) l
      (gives l (answer.Bytes (values l (load_bytes l.loans k off len))))
  within = dev_read-within l k (map_of kept.0) (image-some map_of h.maps.map k kept.0 kept.1) kept.2 off len range

  answers : dev_read_answer (is_marked_known h.loans) (loan_of h.loans.loans k) off len
      ≡ dev_read_answer (ideal.is_known l.memory) (loan_of l.loans k) off len
  answers =
      ap (λ f. dev_read_answer f (loan_of h.loans.loans k) off len)
      (sym (known-held h.loans.bytes h.loans.loans (devices_of h.maps.map) h.memory.memory))

  -- the read is refused
  pub dev_read-refused : (r : Report) →
      Refused r ≡ dev_read_answer (is_marked_known h.loans) (loan_of h.loans.loans k) off len →
      gives l (answer.Report r) ≡ dev_read k off len l
  dev_read-refused r is =
      sym (within ∙ refused _ r l _ (sym (is ∙ answers)))

  -- a read is done if it returns the bytes at the bus addresses
  pub dev_read-by : (wired : IsWired h) → Fine ≡ dev_read_answer (is_marked_known h.loans) (loan_of h.loans.loans k) off
      len →
      (out : List ℕ) → out ≡ map (wire_of h) (load_buses l k off len) →
      gives l (answer.Bytes out) ≡ dev_read k off len l
  dev_read-by wired fine out is =
      let allowed : dev_read_answer (ideal.is_known l.memory) (loan_of l.loans k) off len ≡ Fine =
      sym (fine ∙ answers)
      in
      ap (λ vs. gives l (answer.Bytes vs))
      (is
      ∙ sym (dev_read_of (own l wired.laid wired.apart) l (traces_of l) (wire_of h)
      (faithful l (wire_of h) wired.apart wired.laid wired.faithful) k off len allowed))
      ∙ sym (within ∙ passes _ l _ allowed)

  -- if the map's tag is not an IOMMU tag, the code reads the bytes at the bus addresses
  module _ (wired : IsWired h) (o : KeptMap) (there : get h.maps.map k ≡ Some o) (plain : is_behind l k ≡ false)
      (fine : Fine ≡ dev_read_answer (is_marked_known h.loans) (loan_of h.loans.loans k) off len) (out : List ℕ)
      (is : out ≡ map (device_view (device_in o.map.stage) h.memory.memory)
      (bus_range off len (segments_of o.map.stage))) where
    loaded : has_load (Some o) ≡ true
    loaded = sym (ap has_load there) ∙ on

    -- what is read is what the wire has at the bus addresses
    pub dev_read-reads : out ≡ map (wire_of h) (load_buses l k off len)
    dev_read-reads =
        is
        ∙ (λ i. map (device_view (sym (device-is h wired k o there loaded) i) h.memory.memory)
        (range-buses h wired k o there loaded plain off len i))
        ∙ same_reads (load_buses l k off len) (device_view (devices_of h.maps.map k) h.memory.memory) (wire_of h)
        (λ i a at.
        let t = range-place h wired k o there loaded off len i a at in
        ap (device_view (devices_of h.maps.map k) h.memory.memory) (sym t.2)
        ∙ sym (trace-view l wired.laid wired.apart h.maps.map refl h.unlent (wire h.memory.memory) k (off + i) t.0 t.1)
        ∙ ap (wire_of h) t.2)

    -- what is read is what the ideal memory has
    pub dev_read-done : gives l (answer.Bytes out) ≡ dev_read k off len l
    dev_read-done = dev_read-by wired fine out dev_read-reads
