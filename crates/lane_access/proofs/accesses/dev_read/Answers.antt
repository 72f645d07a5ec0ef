use Rattle.std.proofs.Common.{◌≡◌, false, map, Some, refl, rules, ap, sym, ◌∙◌, subst}
use Rattle.std.specs.FinMap.{get, insert}
use Rattle.busdma_base.specs.declared.journals.answer.Answer.TheVariants as answer
use Rattle.busdma_machine.specs.declared.name.MapId.{MapId}
use Rattle.busdma_rules.specs.Lending.Access.{dev_read_answer}
use Rattle.busdma_machine.specs.Runs.{addresses}
use Rattle.busdma_rules.specs.Lending.Loans.{load_bytes, loan_of}
use Rattle.loan_table.specs.Table.{AreIn, is_marked_known}
use Rattle.phys_memory.specs.Frames.{Lie}
use Rattle.phys_memory.specs.Memory.{wire}
use Rattle.ideal_lane.specs.Outcomes.{gives}
use Rattle.ideal_lane.specs.Accesses.{dev_read}
use Rattle.ideal_wire.specs.Laid.{is_behind}
use Rattle.ideal_wire.specs.WireStep.{load_buses}
use Rattle.lane_state.specs.declared.kept.KeptMap.{KeptMap}
use Rattle.lane_state.specs.Covered.{has_load}
use Rattle.lane_state.specs.Ideal.{ideal_of}
use Rattle.lane_state.specs.Kept.{map_of}
use Rattle.lane_state.specs.Wire.{wire_of}
use Rattle.lane_access.proofs.DeviceReads.{dev_read-by, dev_read-done, dev_read-past, dev_read-reads, dev_read-refused}
use Rattle.lane_access.proofs.DeviceReads.{load-there}
use Rattle.lane_access.proofs.Steps.{done-reading, refused-reading}
use Rattle.lane_state.proofs.Devices.{is-reached}
use Rattle.lane_state.proofs.MapValues.{image-some}
use Rattle.lane_access.proofs.OwnExtents.{lie-inside}
use Rattle.lane_state.proofs.OwnBytes.{own-reads}
use Rattle.lane_access.proofs.Unbounced.{is-behind, not-behind, own-buses}
use Rattle.lane_access.proofs.PutBack.{are-back, ideal-back, pages-back, put-same, wire-back}
use Rattle.lane_state.specs.Awaiting.{AreAwaiting}
use Rattle.lane_access.proofs.accesses.dev_read.Goals as goal

pub returns-in-Some-past_end : goal.returns-in-Some-past_end
returns-in-Some-past_end c =
    let h = c.args.holdings.now in
    let x = load-there (get h.maps.map c.args.map) c.in_default.ensures.loaded in
    refused-reading (dev_read c.args.map c.args.off c.args.len) _ h _ c.in-Some-past_end.refusal refl
    (dev_read-past (ideal_of h) c.args.map (map_of x.0) (image-some map_of h.maps.map c.args.map x.0 x.1) x.2 c.args.off
    c.args.len c.in-Some-past_end.refusal c.in-Some-past_end.ensures.refused)

pub returns-in-Refused : goal.returns-in-Refused
returns-in-Refused c =
    let h = c.args.holdings.now in
    done-reading
    (dev_read-refused h c.args.map c.args.off c.args.len c.in_default.ensures.loaded
    c.in_default-past_end.ensures.range c.in-Refused.refusal
    (sym c.in-Refused.is ∙ c.may_dev_read.ensures
    ∙ ap (λ (m : MapId). dev_read_answer (is_marked_known h.loans) (loan_of h.loans.loans m.made_at) c.args.off
    c.args.len)
    c.map_id-id.ensures))
    tt refl (record { ideal = refl; bytes = record { own = refl; pages = λ m. refl } }) refl refl refl

pub read_load-bytes-requires : goal.read_load-bytes-requires
read_load-bytes-requires c =
    let h = c.args.holdings.now in
    let o : KeptMap = c.in-Some-get_mut.kept.now in
    let there : get h.maps.map c.args.map ≡ Some o = sym c.in-Some-get_mut.ensures.value in
    let plain : is_behind (ideal_of h) c.args.map ≡ false =
    not-behind h c.args.map o there c.is_device.result c.is_device.ensures c.if-is_device.false in
    let on = sym (ap has_load there) ∙ c.in_default.ensures.loaded in
    is-reached h c.requires.wired c.args.map o there on plain c.args.off c.args.len c.in_default-past_end.ensures.range

pub invariant_of-holdings-2 : goal.invariant_of-holdings-2
invariant_of-holdings-2 c =
    let h = c.args.holdings.now in
    let o : KeptMap = c.in-Some-get_mut.kept.now in
    let there : get h.maps.map c.args.map ≡ Some o = sym c.in-Some-get_mut.ensures.value in
    let maps = put-same h.maps.map c.args.map o c.read_load-bytes.new.map there c.read_load-bytes.ensures.kept in
    let are = are-back h (insert h.maps.map c.args.map (record o { map = c.read_load-bytes.new.map })) maps in
    record {
      covered = h.covered;
      reaches = h.reaches;
      framed = h.framed;
      placed = h.placed;
      standing = h.standing;
      tag_places = h.tag_places;
      map_places = h.map_places;
      memory_places = h.memory_places;
      ring_places = h.ring_places;
      loaded = are.loaded;
      unlent = are.unlent;
      promised = are.promised;
      own_returns = h.own_returns;
      returning = are.returning;
      tried = are.tried;
      awaiting = subst (λ ms. AreAwaiting h.pages.now h.maxmem h.tags.map ms h.loans.prepared) (sym maps) h.awaiting;
      ready = h.ready;
    }

pub returns : goal.returns
returns c =
    let h = c.args.holdings.now in
    let o : KeptMap = c.in-Some-get_mut.kept.now in
    let there : get h.maps.map c.args.map ≡ Some o = sym c.in-Some-get_mut.ensures.value in
    let plain : is_behind (ideal_of h) c.args.map ≡ false =
    not-behind h c.args.map o there c.is_device.result c.is_device.ensures c.if-is_device.false in
    let on = c.in_default.ensures.loaded in
    let range = c.in_default-past_end.ensures.range in
    let fine = sym c.in_default-may_dev_read.is ∙ c.may_dev_read.ensures
    ∙ ap (λ (m : MapId). dev_read_answer (is_marked_known h.loans) (loan_of h.loans.loans m.made_at) c.args.off
    c.args.len)
    c.map_id-id.ensures in
    let now = insert h.maps.map c.args.map (record o { map = c.read_load-bytes.new.map }) in
    let maps = put-same h.maps.map c.args.map o c.read_load-bytes.new.map there c.read_load-bytes.ensures.kept in
    done-reading
    (ap (λ s. gives s (answer.Bytes c.in_ok-bytes.field-0)) (ideal-back h now maps)
    ∙ dev_read-done h c.args.map c.args.off c.args.len on range c.requires.wired o there plain fine
    c.in_ok-bytes.field-0 c.in_ok-bytes.ensures.bytes)
    (dev_read-reads h c.args.map c.args.off c.args.len on range c.requires.wired o there plain fine
    c.in_ok-bytes.field-0 c.in_ok-bytes.ensures.bytes)
    (wire-back h now maps)
    (record { ideal = ideal-back h now maps; bytes = record { own = refl; pages = pages-back h now maps } })
    refl refl refl

pub returns-in_err-bytes : goal.returns-in_err-bytes
returns-in_err-bytes c =
    let h = c.args.holdings.now in
    let o : KeptMap = c.in-Some-get_mut.kept.now in
    let there : get h.maps.map c.args.map ≡ Some o = sym c.in-Some-get_mut.ensures.value in
    let now = insert h.maps.map c.args.map (record o { map = c.read_load-bytes.new.map }) in
    let maps = put-same h.maps.map c.args.map o c.read_load-bytes.new.map there c.read_load-bytes.ensures.kept in
    record {
      done = search rules;
      read = search rules;
      wire = wire-back h now maps;
      kept = record { ideal = ideal-back h now maps; bytes = record { own = refl; pages = pages-back h now maps } };
      script = refl;
      memories = refl;
      agenda = refl;
    }

pub read_parts-requires-clause-lie : goal.read_parts-requires-clause-lie
read_parts-requires-clause-lie c =
    let h = c.args.holdings.now in
    subst (Lie h.memory.memory) (sym c.as_slice.ensures.value)
    (lie-inside h c.requires.wired c.in_ok-parts.parts.items c.in_ok-parts.ensures.in_frames
    (subst (AreIn h.loans.bytes) (sym c.in_ok-parts.ensures.bytes) c.in_default-past_end.ensures.inside))

pub returns-then-is_device : goal.returns-then-is_device
returns-then-is_device c =
    let h = c.args.holdings.now in
    let x = load-there (get h.maps.map c.args.map) c.in_default.ensures.loaded in
    let device = is-behind h c.args.map x.0 x.1 c.is_device.result c.is_device.ensures c.if-is_device.true in
    let read : c.in_ok-read_parts.field-0 ≡ map (wire_of h) (load_buses (ideal_of h) c.args.map c.args.off c.args.len) =
    c.in_ok-read_parts.ensures
    ∙ ap (λ es. map (wire h.memory.memory) (addresses es)) c.as_slice.ensures.value
    ∙ ap (map (wire h.memory.memory)) c.in_ok-parts.ensures.bytes
    ∙ own-reads h c.requires.wired (load_bytes h.loans.loans c.args.map c.args.off c.args.len)
    c.in_default-past_end.ensures.inside
    ∙ ap (map (wire_of h)) (sym (own-buses h c.requires.wired c.requires.stands c.args.map x.0 x.1 x.2 device
    c.args.off c.args.len)) in
    done-reading
    (dev_read-by h c.args.map c.args.off c.args.len c.in_default.ensures.loaded
    c.in_default-past_end.ensures.range c.requires.wired
    (sym c.in_default-may_dev_read.is ∙ c.may_dev_read.ensures
    ∙ ap (λ (m : MapId). dev_read_answer (is_marked_known h.loans) (loan_of h.loans.loans m.made_at) c.args.off
    c.args.len)
    c.map_id-id.ensures)
    c.in_ok-read_parts.field-0 read)
    read refl (record { ideal = refl; bytes = record { own = refl; pages = λ m. refl } }) refl refl refl
