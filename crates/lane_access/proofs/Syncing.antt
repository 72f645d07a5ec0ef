-- What a sync of a range of a map's load makes of a driver's ideal state and of what it holds.
use Rattle.std.proofs.Common.{◌≡◌, ℕ, ◌+◌, ◌≤◌, ◌&&◌, ◌||◌, Bool, true, false, cond, length, Some, is_some}
use Rattle.std.proofs.Common.{List, refl, sym, ap, ◌∙◌, subst}
use Rattle.std.specs.List.{list_any}
use Rattle.std.specs.Option.{option_map}
use Rattle.std.specs.Ordering.{nat_cmp}
use Rattle.std.specs.FinMap.{FinMap, contains_key, get, insert}
use Rattle.busdma_machine.specs.declared.bounce.hold.HubReply.TheVariants.{Nothing}
use Rattle.busdma_base.specs.declared.journals.answer.Answer.TheVariants as answer
use Rattle.busdma_machine.specs.declared.report.Judged.TheVariants.{Fine}
use Rattle.busdma_machine.specs.declared.report.Report.{Report}
use Rattle.busdma_machine.specs.declared.report.ReportName.TheVariants.{MixedSync}
use Rattle.busdma_machine.specs.declared.name.ZoneId.{ZoneId}
use Rattle.busdma_machine.specs.Machine.Wire.{Wire, with_bytes_of}
use Rattle.lane_state.specs.declared.kept.KeptLoad.{KeptLoad}
use Rattle.dma_map.specs.MapView as held
use Rattle.busdma_rules.specs.Tags.SyncOps.{is_mixed, postread, prewrite}
use Rattle.busdma_rules.specs.Lending.SyncEffects.{lost, marked_range, sync_answer}
use Rattle.busdma_rules.specs.Lending.SyncEffects as lending
use Rattle.busdma_rules.specs.Lending.Loans.{Loans, addresses_of, loan_of}
use Rattle.loan_table.specs.Table.{AreIn, buffer_of, set_all}
use Rattle.busdma_rules.proofs.Lending.Marking.{same_bytes, addresses_of-marked_range}
use Rattle.map_sync.specs.Ranges.{range_of_chunks}
use Rattle.phys_memory.specs.Memory.{FrameMemory, wire}
use Rattle.ideal_lane.specs.Asking.{Asking, by_reply}
use Rattle.ideal_lane.specs.IdealMemory.{forgotten}
use Rattle.ideal_lane.specs.Outcomes.{Outcome, gives, is_loaded, load_length, unless_past}
use Rattle.ideal_lane.specs.State.{LaneState, LaneMap}
use Rattle.ideal_lane.specs.Syncs.{bounced_in, copies, counted, has_byte_of, sync_part}
use Rattle.ideal_lane.specs.Syncs as syncs
use Rattle.ideal_wire.specs.Centre.{IsFaithful, IsFaithfulTo}
use Rattle.ideal_wire.specs.Traces.{placed_from, stage_at, traces_of}
use Rattle.ideal_wire.specs.WireStep as wires
use Rattle.ideal_wire.specs.WireStep.{copied_by, if_done}
use Rattle.ideal_wire.proofs.Faithful.Calls.{sync_range-faithful}
use Rattle.lane_state.specs.declared.holdings.Holdings.{Holdings}
use Rattle.lane_state.specs.declared.kept.KeptMap.{KeptMap}
use Rattle.lane_state.specs.declared.kept.KeptShare.{KeptShare}
use Rattle.lane_state.specs.Covered.{has_load}
use Rattle.lane_state.specs.Held.{device_view, devices_of}
use Rattle.lane_state.specs.Held as bytes
use Rattle.lane_state.specs.Ideal.{ideal_of}
use Rattle.lane_state.specs.Kept.{device_in, map_of, kept_share, kept_stage}
use Rattle.lane_state.specs.MapValues.{map_values}
use Rattle.lane_state.specs.PagesLent.{IsRepaged}
use Rattle.lane_state.specs.Wire.{IsWired, held_pages, wire_of}
use Rattle.lane_access.specs.Steps.{part_sync}
use Rattle.lane_access.proofs.Copying.{sync-copied}
use Rattle.lane_access.proofs.DeviceReads.{ends, loads}
use Rattle.lane_state.proofs.Devices.{Loading, loading}
use Rattle.lane_state.proofs.HeldMemory.{AreMarks, held-is}
use Rattle.lane_state.proofs.MapTables.{AreMaps}
use Rattle.lane_state.proofs.MapValues.{image-some}
use Rattle.lane_state.proofs.MarkedMemory.{marks-forgotten, marks-held, own-marks}
use Rattle.lane_state.proofs.Marks.{has_inserted, has_set_all}
use Rattle.lane_access.proofs.Repaging.{are-maps, ideal-maps, maps, unlent-maps}

-- ---- the step, by what refuses it
module _ (l : LaneState) (k : ℕ) (o : LaneMap) (off len ops : ℕ) where
  -- the driver after a sync that is done
  abbrev pub after_sync : LaneState
  after_sync = record l {
    loans = lending.synced l.loans k off len ops;
    memory = forgotten (lost l.loans k off len ops) l.memory;
    shares = counted (copies off len ops o.stage) o.zone l.shares;
  }

  pub part-mixed : is_mixed ops ≡ true →
      sync_part k o off len ops l ≡ gives l (answer.Report (record { name = MixedSync; at = 0 }))
  part-mixed mixed = rw mixed refl

  pub part-fine : is_mixed ops ≡ false → sync_answer l.loans k off len ops ≡ Fine →
      sync_part k o off len ops l ≡ gives after_sync answer.Done
  part-fine alone fine = rw (alone, fine) refl

-- ---- loans after a sync
-- the loans after a sync are of the same bytes
pub synced-bytes : (loans : Loans) (k off len ops q : ℕ) →
    addresses_of (loan_of (lending.synced loans k off len ops) q).positions ≡ addresses_of (loan_of loans q).positions
synced-bytes loans k off len ops q = by (loan_of loans k).coherent
  where
    by : (b : Bool) → addresses_of (loan_of (cond b loans (insert loans k (record {
      coherent = false;
      positions = marked_range ops off len (loan_of loans k).positions;
    }))) q).positions
        ≡ addresses_of (loan_of loans q).positions
    by true = refl
    by false = same_bytes loans k (record {
      coherent = false;
      positions = marked_range ops off len (loan_of loans k).positions;
    }) (addresses_of-marked_range ops off len (loan_of loans k).positions) q

-- the loans after a sync are of the same maps
pub synced-maps : (loans : Loans) (k off len ops q : ℕ) → is_some (get loans k) ≡ true →
    contains_key (lending.synced loans k off len ops) q ≡ contains_key loans q
synced-maps loans k off len ops q there = by (loan_of loans k).coherent
  where
    by : (b : Bool) → contains_key (cond b loans (insert loans k (record {
      coherent = false;
      positions = marked_range ops off len (loan_of loans k).positions;
    }))) q
        ≡ contains_key loans q
    by true = refl
    by false = has_inserted loans k (record {
      coherent = false;
      positions = marked_range ops off len (loan_of loans k).positions;
    }) there q

-- ---- a sync that is done, where the map's pages and the driver's frames were copied
module _ (h : Holdings) (wired : IsWired h) (k : ℕ) (o : KeptMap) (there : get h.maps.map k ≡ Some o)
    (on : has_load (Some o) ≡ true) (next : held.MapView KeptLoad) (repaged : IsRepaged o.map next) (n : FrameMemory)
    (off len ops : ℕ)
    (copied : device_view (device_in next.stage) n
    ≡ copied_by ops (range_of_chunks off len (held.held_chunks o.map.stage))
    (device_view (device_in o.map.stage) h.memory.memory))
    (range : off + len ≤ length (buffer_of h.loans k)) (alone : is_mixed ops ≡ false)
    (fine : sync_answer h.loans.loans k off len ops ≡ Fine) where
  abbrev l : LaneState
  l = ideal_of h

  abbrev table : FinMap nat_cmp KeptMap
  table = maps h wired k o there on next repaged

  abbrev now : Wire
  now = with_bytes_of (held_pages table) (wire n)

  abbrev after : LaneState
  after = after_sync l k (map_of o) off len ops

  abbrev synced : Wire
  synced = wires.wire_synced k off len ops l (wire_of h)

  is : get l.maps k ≡ Some (map_of o)
  is = image-some map_of h.maps.map k o there

  done : sync_part k (map_of o) off len ops l ≡ gives after answer.Done
  done = part-fine l k (map_of o) off len ops alone fine

  whole : syncs.sync_range k off len ops l ≡ gives after answer.Done
  whole =
      loads l k (map_of o) is on (λ x. unless_past k off len l (sync_part k x off len ops l))
      ∙ ends l k off len range (sync_part k (map_of o) off len ops l) ∙ done

  held-synced : now ≡ synced
  held-synced = sync-copied h wired k o there on next repaged n off len ops copied

  -- what is held is what the wire's definition says
  pub part-wire : now ≡ if_done (sync_part k (map_of o) off len ops l) synced (wire_of h)
  part-wire = held-synced ∙ sym (ap (λ s. if_done s synced (wire_of h)) done)

  traces : traces_of after ≡ traces_of l
  traces = λ i q. placed_from (bounced_in (stage_at l q)) 0 (synced-bytes l.loans k off len ops q i)

  stays : IsFaithfulTo after.memory after.loans (traces_of l) now
  stays =
      subst (λ ts. IsFaithfulTo after.memory after.loans ts now) traces
      (subst (IsFaithful after) (sym (held-synced ∙ sym (ap (λ s. if_done s synced (wire_of h)) whole)))
      (subst (λ (s : Asking Outcome). IsFaithful (by_reply s Nothing).lane
      (wires.wire_sync_range k off len ops l (wire_of h)))
      whole
      (sync_range-faithful l (wire_of h) wired.apart wired.laid wired.faithful k off len ops Nothing)))

  -- what is held is the ideal memory with these bytes marked
  pub part-done : (marks : FinMap nat_cmp Bool) (loans : Loans) (these : FinMap nat_cmp KeptMap)
      (shares : List KeptShare) → AreIn h.loans.bytes (lost h.loans.loans k off len ops) →
      marks ≡ set_all h.loans.bytes (lost h.loans.loans k off len ops) false →
      loans ≡ lending.synced h.loans.loans k off len ops → these ≡ table →
      kept_share shares
      ≡ counted ((prewrite ops || postread ops) && list_any (has_byte_of off len) (held.held_chunks o.map.stage))
      (option_map (λ z. z.0) o.map.zone) (kept_share h.shares.items) →
      gives (record l {
        maps = map_values map_of these;
        memory = bytes.held marks loans (devices_of these) n;
        loans = loans;
        shares = kept_share shares;
      }) answer.Done
      ≡ sync_part k (map_of o) off len ops l
  part-done marks loans these shares are marked same put_in shared =
      let keys = lost h.loans.loans k off len ops in
      let x : Loading h wired k o there on = loading h wired k o there on in
      let before : AreMarks h.loans.bytes l.memory =
      marks-held h.loans.bytes h.loans.loans (devices_of h.maps.map) h.memory.memory in
      let then : AreMarks (set_all h.loans.bytes keys false) (forgotten keys l.memory) =
      marks-forgotten h.loans.bytes l.memory keys are before in
      let memory : bytes.held marks loans (devices_of these) n ≡ forgotten keys l.memory =
      (λ i. bytes.held (marked i) (same i) (devices_of (put_in i)) n)
      ∙ held-is l wired.laid wired.apart table (ideal-maps h wired k o there on next repaged)
      (unlent-maps h wired k o there on next repaged) n (forgotten keys l.memory)
      (lending.synced h.loans.loans k off len ops) stays (synced-bytes h.loans.loans k off len ops)
      (λ a own. sym (own-marks h.loans.bytes (set_all h.loans.bytes keys false) l.memory (forgotten keys l.memory)
      before then (has_set_all h.loans.bytes keys false are) a) ∙ own)
      (set_all h.loans.bytes keys false) then in
      let chunks : held.held_chunks o.map.stage ≡ bounced_in (map_of o).stage =
      ap held.held_chunks x.stage ∙ sym (ap (λ s. bounced_in (kept_stage s)) x.stage) in
      let counts : kept_share shares ≡ counted (copies off len ops (map_of o).stage) (map_of o).zone l.shares =
      shared ∙ ap (λ cs. counted ((prewrite ops || postread ops) && list_any (has_byte_of off len) cs)
      (option_map (λ (z : ZoneId). z.0) o.map.zone) (kept_share h.shares.items)) chunks in
      (λ i. gives (record l {
        maps = (ap (map_values map_of) put_in ∙ ideal-maps h wired k o there on next repaged) i;
        memory = memory i;
        loans = same i;
        shares = counts i;
      }) answer.Done)
      ∙ sym done

  -- what holds of the driver's maps
  pub are-synced : (these : FinMap nat_cmp KeptMap) (loans : Loans) → these ≡ table →
      loans ≡ lending.synced h.loans.loans k off len ops →
      AreMaps these loans h.agenda.returns h.agenda.promised
  are-synced these loans put_in same =
      let are = are-maps h wired k o there on next repaged in
      let some : is_some (get h.loans.loans k) ≡ true = h.loaded k ∙ ap has_load there ∙ on in
      let one : AreMaps table (lending.synced h.loans.loans k off len ops) h.agenda.returns h.agenda.promised = record {
        loaded = λ q. synced-maps h.loans.loans k off len ops q some ∙ are.loaded q;
        unlent = are.unlent;
        promised = are.promised;
        returning = are.returning;
        tried = are.tried;
      } in
      subst (λ ms. AreMaps ms loans h.agenda.returns h.agenda.promised) (sym put_in)
      (subst (λ ls. AreMaps table ls h.agenda.returns h.agenda.promised) (sym same) one)

-- ---- a sync of a range of the load
module _ (l : LaneState) (k : ℕ) (o : LaneMap) (there : get l.maps k ≡ Some o) (on : is_loaded o.stage ≡ true)
    (ops : ℕ) where
  pub part-there : (off len : ℕ) → part_sync k off len ops l ≡ sync_part k o off len ops l
  part-there off len = loads l k o there on (λ x. sync_part k x off len ops l)

  pub range-within : (off len : ℕ) → off + len ≤ load_length l k →
      part_sync k off len ops l ≡ syncs.sync_range k off len ops l
  range-within off len within =
      part-there off len
      ∙ sym (loads l k o there on (λ x. unless_past k off len l (sync_part k x off len ops l))
      ∙ ends l k off len within (sync_part k o off len ops l))

  pub range-past : (off len : ℕ) (r : Report) →
      ((s : Asking Outcome) → unless_past k off len l s ≡ gives l (answer.Report r)) →
      gives l (answer.Report r) ≡ syncs.sync_range k off len ops l
  range-past off len r h =
      sym (h (sync_part k o off len ops l))
      ∙ sym (loads l k o there on (λ x. unless_past k off len l (sync_part k x off len ops l)))
