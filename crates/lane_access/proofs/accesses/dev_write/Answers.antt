use Rattle.std.proofs.Common.{◌≡◌, ◌/◌, true, false, Some, length, ap, sym, ◌∙◌, subst}
use Rattle.std.specs.FinMap.{contains_key, get, insert}
use Rattle.busdma_machine.specs.declared.name.MapId.{MapId}
use Rattle.busdma_machine.specs.Machine.Wire.{put}
use Rattle.busdma_machine.specs.Runs.{addresses}
use Rattle.busdma_rules.specs.Lending.Access.{dev_write_answer}
use Rattle.busdma_rules.specs.Lending.Loans.{load_bytes, loan_of}
use Rattle.loan_table.specs.Table.{AreIn, buffer_of, set_all}
use Rattle.loan_table.proofs.Extending.{length-range}
use Rattle.phys_memory.specs.Frames.{Lie}
use Rattle.ideal_lane.specs.Accesses.{dev_write}
use Rattle.ideal_wire.specs.Centre.{IsFaithful}
use Rattle.ideal_wire.specs.Laid.{is_behind}
use Rattle.lane_state.specs.declared.kept.KeptMap.{KeptMap}
use Rattle.lane_state.specs.Changes.{with_written}
use Rattle.lane_state.specs.Covered.{has_load}
use Rattle.lane_state.specs.Ideal.{ideal_of}
use Rattle.lane_state.specs.Kept.{map_of}
use Rattle.lane_state.specs.Wire.{wire_of}
use Rattle.lane_access.proofs.DeviceReads.{load-there}
use Rattle.lane_state.proofs.Devices.{is-reached}
use Rattle.lane_access.specs.Steps.{own_write}
use Rattle.lane_access.proofs.DeviceWrites.{dev_write-done, dev_write-past, dev_write-wire}
use Rattle.lane_state.proofs.Doors.{err-map, ok-map}
use Rattle.lane_access.proofs.Steps.{done-step, refused-step}
use Rattle.lane_state.proofs.MapTables.{AreMaps}
use Rattle.lane_state.proofs.MapValues.{image-some}
use Rattle.lane_state.proofs.Marks.{has_set_all}
use Rattle.lane_state.proofs.Reaching.{same-physical, same-placed, same-standing}
use Rattle.lane_access.proofs.Repaging.{are-maps}
use Rattle.lane_access.proofs.OwnExtents.{lie-inside}
use Rattle.lane_access.proofs.Unbounced.{is-behind, not-behind, own-faithful, own-step, own-wire}
use Rattle.std.proofs.Common.{refl}
use Rattle.dma_map.specs.MapView.{held_waiting_load}
use Rattle.lane_state.proofs.Awaiting.{put-awaiting, still-ready}
use Rattle.lane_access.proofs.accesses.dev_write.Goals as goal

pub returns-in-Some-past_end : goal.returns-in-Some-past_end
returns-in-Some-past_end c =
    let h = c.args.holdings.now in
    let x = load-there (get h.maps.map c.args.map) c.in_default.ensures.loaded in
    refused-step (dev_write c.args.map c.args.off c.args.bytes.now) _ h _ c.in-Some-past_end.refusal refl
    (dev_write-past (ideal_of h) c.args.map (map_of x.0) (image-some map_of h.maps.map c.args.map x.0 x.1) x.2
    c.args.off c.args.bytes.now c.in-Some-past_end.refusal c.in-Some-past_end.ensures.refused)

pub write_load-requires : goal.write_load-requires
write_load-requires c =
    let h = c.args.holdings.now in
    let o : KeptMap = c.in-Some-get_mut.kept.now in
    let there : get h.maps.map c.args.map ≡ Some o = sym c.in-Some-get_mut.ensures.value in
    let plain : is_behind (ideal_of h) c.args.map ≡ false =
    not-behind h c.args.map o there c.is_device.result c.is_device.ensures c.if-is_device.false in
    let on = sym (ap has_load there) ∙ c.in_default.ensures.loaded in
    is-reached h c.requires.wired c.args.map o there on plain c.args.off (length c.args.bytes.now)
    c.in_default-past_end.ensures.range

pub invariant_of-holdings-2 : goal.invariant_of-holdings-2
invariant_of-holdings-2 c =
    let h = c.args.holdings.now in
    let k = c.args.map in
    let o : KeptMap = c.in-Some-get_mut.kept.now in
    let there : get h.maps.map k ≡ Some o = sym c.in-Some-get_mut.ensures.value in
    let on = sym (ap has_load there) ∙ c.in_default.ensures.loaded in
    let loans = c.note_dev_write.ensures.loans ∙ c.reserve_extents.ensures.same.loans in
    let pas = load_bytes h.loans.loans k c.args.off (length c.args.bytes.now) in
    let one = are-maps h c.requires.wired k o there on c.write_load.new.map c.write_load.ensures.map in
    let are =
    subst (λ ls. AreMaps (insert h.maps.map k (record o { map = c.write_load.new.map })) ls h.agenda.returns
    h.agenda.promised) (sym loans) one in
    let marked =
    c.note_dev_write.ensures.bytes
    ∙ (λ i. set_all (c.reserve_extents.ensures.same.bytes i)
    (load_bytes (c.reserve_extents.ensures.same.loans i)
    (c.map_id-id.ensures i).made_at c.args.off (length c.args.bytes.now)) true) in
    let prepared = c.note_dev_write.ensures.prepared ∙ c.reserve_extents.ensures.same.prepared in
    record {
      covered = λ a. ap (λ b. contains_key b a) marked
          ∙ has_set_all h.loans.bytes pas true c.in_default-past_end.ensures.inside a
          ∙ h.covered a ∙ sym (c.write_load.ensures.same.frames (a / 4096));
      reaches = λ va. ap (λ t. t va) (same-physical h.memory.memory c.write_load.new.memory.memory
          c.write_load.ensures.same)
          ∙ h.reaches va;
      framed = λ f own. c.write_load.ensures.same.frames f ∙ h.framed f own;
      placed = same-placed h.memory.memory c.write_load.new.memory.memory c.write_load.ensures.same h.placed;
      standing = same-standing h.memories.map h.memory.memory c.write_load.new.memory.memory
          c.write_load.ensures.same h.standing;
      tag_places = h.tag_places;
      map_places = h.map_places;
      memory_places = h.memory_places;
      ring_places = h.ring_places;
      loaded = are.loaded;
      unlent = are.unlent;
      promised = are.promised;
      own_returns = h.own_returns;
      returning = are.returning;
      tried = are.tried;
      awaiting = put-awaiting h c.note_dev_write.new.self.prepared prepared k (record o { map = c.write_load.new.map })
          (ap (λ m. held_waiting_load m.stage) c.write_load.ensures.map.is);
      ready = still-ready h c.note_dev_write.new.self.prepared prepared;
    }

pub returns : goal.returns
returns c =
    let h = c.args.holdings.now in
    let k = c.args.map in
    let vs = c.args.bytes.now in
    let o : KeptMap = c.in-Some-get_mut.kept.now in
    let there : get h.maps.map k ≡ Some o = sym c.in-Some-get_mut.ensures.value in
    let plain : is_behind (ideal_of h) c.args.map ≡ false =
    not-behind h c.args.map o there c.is_device.result c.is_device.ensures c.if-is_device.false in
    let on = sym (ap has_load there) ∙ c.in_default.ensures.loaded in
    let range = c.in_default-past_end.ensures.range in
    let fine =
    sym c.in_default-may_dev_write.is ∙ c.may_dev_write.ensures
    ∙ ap (λ (m : MapId). dev_write_answer (loan_of h.loans.loans m.made_at) c.args.off (length vs))
    c.map_id-id.ensures in
    let same = c.reserve_extents.ensures.same in
    done-step
    (dev_write-done h c.requires.wired k o there on plain c.args.off vs range fine
    c.write_load.new.map c.write_load.ensures.map c.write_load.new.memory.memory c.write_load.ensures.view
    c.note_dev_write.new.self.bytes c.note_dev_write.new.self.loans
    (insert h.maps.map k (record o { map = c.write_load.new.map }))
    c.in_default-past_end.ensures.inside
    (c.note_dev_write.ensures.bytes
    ∙ (λ i. set_all (same.bytes i)
    (load_bytes (same.loans i) (c.map_id-id.ensures i).made_at c.args.off (length vs)) true))
    (c.note_dev_write.ensures.loans ∙ same.loans) refl)
    (dev_write-wire h c.requires.wired k o there on plain c.args.off vs range fine
    c.write_load.new.map c.write_load.ensures.map c.write_load.new.memory.memory c.write_load.ensures.view)
    refl refl refl

pub write_own-requires-clause-lie : goal.write_own-requires-clause-lie
write_own-requires-clause-lie c =
    let h = c.args.holdings.now in
    subst (Lie h.memory.memory) (sym c.as_slice.ensures.value)
    (lie-inside h c.requires.wired c.in_ok-parts.parts.items c.in_ok-parts.ensures.in_frames
    (subst (AreIn h.loans.bytes) (sym c.in_ok-parts.ensures.bytes) c.in_default-past_end.ensures.inside))

pub write_own-requires-clause-inside : goal.write_own-requires-clause-inside
write_own-requires-clause-inside c =
    let h = c.args.holdings.now in
    subst (λ es. AreIn h.loans.bytes (addresses es)) (sym c.as_slice.ensures.value)
    (subst (AreIn h.loans.bytes) (sym c.in_ok-parts.ensures.bytes) c.in_default-past_end.ensures.inside)

pub write_own-requires-clause-len : goal.write_own-requires-clause-len
write_own-requires-clause-len c =
    let h = c.args.holdings.now in
    ap (λ es. length (addresses es)) c.as_slice.ensures.value ∙ ap length c.in_ok-parts.ensures.bytes
    ∙ length-range c.args.off (length c.args.bytes.now) (buffer_of h.loans c.args.map)
    c.in_default-past_end.ensures.range

pub write_own-requires-clause-faithful : goal.write_own-requires-clause-faithful
write_own-requires-clause-faithful c =
    let h = c.args.holdings.now in
    let vs = c.args.bytes.now in
    let x = load-there (get h.maps.map c.args.map) c.in_default.ensures.loaded in
    let device = is-behind h c.args.map x.0 x.1 c.is_device.result c.is_device.ensures c.if-is_device.true in
    let fine =
    sym c.in_default-may_dev_write.is ∙ c.may_dev_write.ensures
    ∙ ap (λ (m : MapId). dev_write_answer (loan_of h.loans.loans m.made_at) c.args.off (length vs))
    c.map_id-id.ensures in
    subst (λ pas. IsFaithful (with_written pas vs (ideal_of h)) (put pas vs (wire_of h)))
    (sym (ap addresses c.as_slice.ensures.value ∙ c.in_ok-parts.ensures.bytes))
    (own-faithful h c.requires.wired c.requires.stands c.args.map x.0 x.1 x.2 device c.args.off vs
    c.in_default-past_end.ensures.range fine)

pub returns-then-is_device : goal.returns-then-is_device
returns-then-is_device c =
    let h = c.args.holdings.now in
    let k = c.args.map in
    let vs = c.args.bytes.now in
    let x = load-there (get h.maps.map k) c.in_default.ensures.loaded in
    let device = is-behind h k x.0 x.1 c.is_device.result c.is_device.ensures c.if-is_device.true in
    let range = c.in_default-past_end.ensures.range in
    let fine =
    sym c.in_default-may_dev_write.is ∙ c.may_dev_write.ensures
    ∙ ap (λ (m : MapId). dev_write_answer (loan_of h.loans.loans m.made_at) c.args.off (length vs))
    c.map_id-id.ensures in
    let pas = addresses c.as_slice.result.now in
    let bytes : pas ≡ load_bytes h.loans.loans k c.args.off (length vs) =
    ap addresses c.as_slice.ensures.value ∙ c.in_ok-parts.ensures.bytes in
    let step = ap (λ xs. own_write xs vs (ideal_of h)) bytes
    ∙ sym (own-step h c.requires.wired c.requires.stands k x.0 x.1 x.2 device c.args.off vs range fine) in
    let wire = ap (λ xs. put xs vs (wire_of h)) bytes
    ∙ sym (own-wire h c.requires.wired c.requires.stands k x.0 x.1 x.2 device c.args.off vs range fine) in
    let r = c.write_own.ensures in
    record {
      done = ok-map c.write_own.result _ _ (λ a e. e ∙ step) r.done;
      wire = ok-map c.write_own.result _ _ (λ a e. e ∙ wire) r.wire;
      err = err-map c.write_own.result (λ s. record {
        ideal = s.ideal;
        bytes = record { own = s.bytes.own; pages = s.bytes.pages };
      }) r.err;
      script = r.script;
      memories = r.memories;
      agenda = r.agenda;
    }
