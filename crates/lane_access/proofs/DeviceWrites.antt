-- What a write of the device makes of a driver's ideal state and of what it holds.
use Rattle.std.proofs.Common.{◌≡◌, ℕ, ◌+◌, ◌≤◌, Bool, true, false, List, length, drop, Some, slice_get, refl}
use Rattle.std.proofs.Common.{sym, ap, ◌∙◌, subst, arith, length-take, length-drop}
use Rattle.std.proofs.lemmas.List.{length-map}
use Rattle.std.specs.Ordering.{nat_cmp}
use Rattle.std.specs.FinMap.{FinMap, get}
use Rattle.busdma_machine.specs.declared.bounce.hold.HubReply.TheVariants.{Nothing}
use Rattle.busdma_base.specs.declared.journals.answer.Answer.TheVariants as answer
use Rattle.busdma_machine.specs.declared.report.Judged.TheVariants.{Fine}
use Rattle.busdma_machine.specs.declared.report.Report.{Report}
use Rattle.busdma_machine.specs.Machine.Wire.{put, stretch, with_bytes_of}
use Rattle.device_model.specs.Access.{bus_range}
use Rattle.lane_state.specs.declared.kept.KeptLoad.{KeptLoad}
use Rattle.dma_map.specs.MapView as held
use Rattle.busdma_rules.specs.declared.position.Position.{Position}
use Rattle.busdma_rules.specs.Lending.Access.{dev_write_answer}
use Rattle.busdma_rules.specs.Lending.Loans.{Loans, addresses_of, load_bytes, loan_of}
use Rattle.loan_table.specs.Table.{AreIn, buffer_of, set_all}
use Rattle.phys_memory.specs.Memory.{FrameMemory, wire}
use Rattle.ideal_lane.specs.Accesses.{dev_write}
use Rattle.ideal_lane.specs.Asking.{Asking, by_reply}
use Rattle.ideal_lane.specs.IdealMemory.{written}
use Rattle.ideal_lane.specs.Outcomes.{Outcome, gives, is_loaded, unless_past, unless_refused}
use Rattle.ideal_lane.specs.State.{LaneState, LaneMap}
use Rattle.ideal_wire.specs.Centre.{IsFaithful}
use Rattle.ideal_wire.specs.Laid.{is_behind}
use Rattle.ideal_wire.specs.WireStep as wires
use Rattle.ideal_wire.specs.WireStep.{if_done, load_buses}
use Rattle.ideal_wire.proofs.Faithful.Calls.{dev_write-faithful}
use Rattle.lane_state.specs.declared.holdings.Holdings.{Holdings}
use Rattle.lane_state.specs.declared.kept.KeptMap.{KeptMap}
use Rattle.lane_state.specs.Covered.{has_load}
use Rattle.lane_state.specs.Held.{device_view, devices_of}
use Rattle.lane_state.specs.Held as bytes
use Rattle.lane_state.specs.Ideal.{ideal_of}
use Rattle.lane_state.specs.Kept.{device_in, map_of}
use Rattle.lane_state.specs.MapValues.{map_values}
use Rattle.lane_state.specs.PagesLent.{IsRepaged}
use Rattle.lane_state.specs.Wire.{IsWired, held_pages, wire_of}
use Rattle.lane_access.proofs.DeviceReads.{ends, loads}
use Rattle.lane_state.proofs.Devices.{range-buses, range-place}
use Rattle.lane_state.proofs.HeldMemory.{AreMarks, held-is}
use Rattle.lane_state.proofs.Lying.{trace-mine}
use Rattle.lane_state.proofs.MapValues.{image-some}
use Rattle.lane_state.proofs.MarkedMemory.{marks-held, marks-written, own-marks}
use Rattle.lane_state.proofs.Marks.{has_set_all}
use Rattle.lane_state.proofs.Reading.{passes}
use Rattle.lane_access.proofs.Repaging.{ideal-maps, maps, repaged-put, unlent-maps}
use Rattle.lane_state.proofs.Views.{IsMine}

-- the step of a write within the load, and of one past its end
module _ (l : LaneState) (k : ℕ) (o : LaneMap) (there : get l.maps k ≡ Some o) (on : is_loaded o.stage ≡ true)
    (off : ℕ) (vs : List ℕ) where
  abbrev step : Asking Outcome
  step = unless_refused (dev_write_answer (loan_of l.loans k) off (length vs)) l
      (gives (record l { memory = written (load_bytes l.loans k off (length vs)) vs l.memory }) answer.Done)

  pub dev_write-past : (r : Report) →
      ((s : Asking Outcome) → unless_past k off (length vs) l s ≡ gives l (answer.Report r)) →
      gives l (answer.Report r) ≡ dev_write k off vs l
  dev_write-past r h = sym (h step) ∙ sym (loads l k o there on (λ x. unless_past k off (length vs) l step))

  pub dev_write-within : off + length vs ≤ length (loan_of l.loans k).positions → dev_write k off vs l ≡ step
  dev_write-within h =
      loads l k o there on (λ x. unless_past k off (length vs) l step) ∙ ends l k off (length vs) h step

-- as many bytes as a range of a buffer has
range-size : (off len : ℕ) (buffer : List Position) → off + len ≤ length buffer →
    length (addresses_of (stretch off len buffer)) ≡ len
range-size off len buffer h =
    length-map (stretch off len buffer) (λ (p : Position). p.pa)
    ∙ omega (arith, length-take len (drop off buffer), length-drop off buffer)

-- a write that is done, where the map's pages and the driver's frames have these bytes now
module _ (h : Holdings) (wired : IsWired h) (k : ℕ) (o : KeptMap) (there : get h.maps.map k ≡ Some o)
    (on : has_load (Some o) ≡ true) (plain : is_behind (ideal_of h) k ≡ false) (off : ℕ) (vs : List ℕ)
    (range : off + length vs ≤ length (buffer_of h.loans k))
    (fine : Fine ≡ dev_write_answer (loan_of h.loans.loans k) off (length vs))
    (next : held.MapView KeptLoad) (repaged : IsRepaged o.map next) (n : FrameMemory)
    (view : device_view (device_in next.stage) n
    ≡ put (bus_range off (length vs) (held.segments_of o.map.stage)) vs
    (device_view (device_in o.map.stage) h.memory.memory)) where
  abbrev l : LaneState
  l = ideal_of h

  abbrev pas : List ℕ
  pas = load_bytes l.loans k off (length vs)

  abbrev after : LaneState
  after = record l { memory = written pas vs l.memory }

  abbrev now : FinMap nat_cmp KeptMap
  now = maps h wired k o there on next repaged

  done : dev_write k off vs l ≡ gives after answer.Done
  done =
      dev_write-within l k (map_of o) (image-some map_of h.maps.map k o there) on off vs range
      ∙ passes (dev_write_answer (loan_of l.loans k) off (length vs)) l (gives after answer.Done) (sym fine)

  mine : (i a : ℕ) → slice_get (load_buses l k off (length vs)) i ≡ Some a → IsMine h.maps.map k a
  mine i a at =
      let t = range-place h wired k o there on off (length vs) i a at in
      subst (IsMine h.maps.map k) t.2
      (trace-mine l wired.laid wired.apart h.maps.map refl h.unlent k (off + i) t.0 t.1)

  -- what is held is what the wire's definition says
  pub dev_write-wire : with_bytes_of (held_pages now) (wire n) ≡ wires.wire_dev_write k off vs l (wire_of h)
  dev_write-wire =
      repaged-put h wired k o there on next repaged n (load_buses l k off (length vs)) vs mine
      (view ∙ ap (λ ks. put ks vs (device_view (device_in o.map.stage) h.memory.memory))
      (range-buses h wired k o there on plain off (length vs)))
      ∙ sym (ap (λ s. if_done s (put (load_buses l k off (length vs)) vs (wire_of h)) (wire_of h)) done)

  stays : IsFaithful after (with_bytes_of (held_pages now) (wire n))
  stays =
      subst (IsFaithful after) (sym dev_write-wire)
      (subst (λ (s : Asking Outcome). IsFaithful (by_reply s Nothing).lane
      (wires.wire_dev_write k off vs l (wire_of h)))
      done
      (dev_write-faithful l (wire_of h) wired.apart wired.laid wired.faithful k off vs Nothing))

  -- what is held is what was written, with these bytes marked
  pub dev_write-done : (marks : FinMap nat_cmp Bool) (loans : Loans) (table : FinMap nat_cmp KeptMap) →
      AreIn h.loans.bytes (load_bytes h.loans.loans k off (length vs)) →
      marks ≡ set_all h.loans.bytes (load_bytes h.loans.loans k off (length vs)) true → loans ≡ h.loans.loans →
      table ≡ now →
      gives (record l {
        maps = map_values map_of table;
        memory = bytes.held marks loans (devices_of table) n;
        loans = loans;
      }) answer.Done
      ≡ dev_write k off vs l
  dev_write-done marks loans table are marked same put_in =
      let before : AreMarks h.loans.bytes l.memory =
      marks-held h.loans.bytes h.loans.loans (devices_of h.maps.map) h.memory.memory in
      let size = range-size off (length vs) (buffer_of h.loans k) range in
      let then : AreMarks (set_all h.loans.bytes pas true) (written pas vs l.memory) =
      marks-written h.loans.bytes l.memory pas vs size are before in
      let is : bytes.held marks loans (devices_of table) n ≡ written pas vs l.memory =
      (λ i. bytes.held (marked i) (same i) (devices_of (put_in i)) n)
      ∙ held-is l wired.laid wired.apart now (ideal-maps h wired k o there on next repaged)
      (unlent-maps h wired k o there on next repaged) n (written pas vs l.memory) h.loans.loans stays (λ q. refl)
      (λ a own. sym (own-marks h.loans.bytes (set_all h.loans.bytes pas true) l.memory (written pas vs l.memory) before
      then (has_set_all h.loans.bytes pas true are) a) ∙ own)
      (set_all h.loans.bytes pas true) then in
      (λ i. gives (record l {
        maps = (ap (map_values map_of) put_in ∙ ideal-maps h wired k o there on next repaged) i;
        memory = is i;
        loans = same i;
      }) answer.Done)
      ∙ sym done
