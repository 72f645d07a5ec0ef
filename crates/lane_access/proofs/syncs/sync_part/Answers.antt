use Rattle.std.proofs.Common.{◌≡◌, ◌/◌, ◌&&◌, ◌||◌, false, Some, refl, ap, sym, ◌∙◌, subst}
use Rattle.std.specs.List.{list_any}
use Rattle.std.specs.Option.{option_map}
use Rattle.std.specs.FinMap.{contains_key, get, insert}
use Rattle.busdma_machine.specs.declared.report.Judged.TheVariants.{Fine}
use Rattle.busdma_machine.specs.declared.name.MapId.{MapId}
use Rattle.busdma_machine.specs.declared.name.ZoneId.{ZoneId}
use Rattle.dma_map.specs.MapView.{held_chunks}
use Rattle.busdma_rules.specs.Tags.SyncOps.{is_mixed, postread, prewrite}
use Rattle.busdma_rules.specs.Lending.SyncEffects.{lost, sync_answer}
use Rattle.busdma_rules.specs.Lending.SyncEffects as lending
use Rattle.loan_table.specs.Table.{AreIn, IsSynced, set_all}
use Rattle.ideal_lane.specs.Syncs.{counted, has_byte_of, sync_part}
use Rattle.ideal_wire.specs.WireStep as wires
use Rattle.ideal_wire.specs.WireStep.{if_done}
use Rattle.lane_state.specs.declared.kept.KeptMap.{KeptMap}
use Rattle.lane_state.specs.Covered.{has_load}
use Rattle.lane_state.specs.Ideal.{ideal_of}
use Rattle.lane_state.specs.Kept.{map_of, kept_share}
use Rattle.lane_state.specs.Wire.{wire_of}
use Rattle.lane_access.proofs.Bouncing.{is-bounced}
use Rattle.lane_state.proofs.MapValues.{image-some}
use Rattle.lane_state.proofs.Marks.{has_set_all}
use Rattle.lane_state.proofs.Reaching.{same-physical, same-placed, same-standing}
use Rattle.lane_access.specs.Steps.{part_sync}
use Rattle.lane_access.proofs.DeviceReads.{load-there}
use Rattle.lane_access.proofs.Steps.{done-step, refused-step}
use Rattle.lane_access.proofs.Syncing.{are-synced, part-done, part-mixed, part-there, part-wire}
use Rattle.dma_map.specs.MapView.{held_waiting_load}
use Rattle.lane_state.proofs.Awaiting.{put-awaiting, still-ready}
use Rattle.lane_access.proofs.syncs.sync_part.Goals as goal

pub copy_part-requires-clause-bounced : goal.copy_part-requires-clause-bounced
copy_part-requires-clause-bounced c =
    let h = c.args.holdings.now in
    let o : KeptMap = c.in-Some.kept.now in
    let there : get h.maps.map c.args.map ≡ Some o = sym c.in-Some.ensures.value in
    is-bounced h c.requires.wired c.args.map o there (sym (ap has_load there) ∙ c.requires.loaded)

pub invariant_of-holdings-2 : goal.invariant_of-holdings-2
invariant_of-holdings-2 c =
    let h = c.args.holdings.now in
    let k = c.args.map in
    let ops = c.args.ops.0 in
    let o : KeptMap = c.in-Some.kept.now in
    let there : get h.maps.map k ≡ Some o = sym c.in-Some.ensures.value in
    let on = sym (ap has_load there) ∙ c.requires.loaded in
    let alone : is_mixed ops ≡ false = sym c.is_mixed.ensures ∙ c.if-is_mixed.false in
    let same = c.reserve_extents.ensures.same in
    let answer = c.sync_loans.ensures.answer
    ∙ (λ i. sync_answer (same.loans i) (c.map_id-id.ensures i).made_at c.args.off c.args.len ops) in
    let fine : sync_answer h.loans.loans k c.args.off c.args.len ops ≡ Fine = sym answer ∙ c.in_default.is in
    let before = c.reserve_extents.new.loans in
    let synced : IsSynced before c.sync_loans.new.loans c.map_id-id.result.made_at c.args.off c.args.len ops =
    rw c.in_default.is at c.sync_loans.ensures.done in
    let marks : c.sync_loans.new.loans.bytes
    ≡ set_all h.loans.bytes (lost h.loans.loans k c.args.off c.args.len ops) false =
    synced.bytes
    ∙ (λ i. set_all (same.bytes i) (lost (same.loans i) (c.map_id-id.ensures i).made_at c.args.off c.args.len ops)
    false)
    in
    let loans : c.sync_loans.new.loans.loans ≡ lending.synced h.loans.loans k c.args.off c.args.len ops =
    synced.loans
    ∙ (λ i. lending.synced (same.loans i) (c.map_id-id.ensures i).made_at c.args.off c.args.len ops) in
    let are : AreIn h.loans.bytes (lost h.loans.loans k c.args.off c.args.len ops) =
    subst (λ b. AreIn b (lost h.loans.loans k c.args.off c.args.len ops)) same.bytes
    (subst (λ ls. AreIn before.bytes (lost ls k c.args.off c.args.len ops)) same.loans
    (subst (λ (m : MapId). AreIn before.bytes (lost before.loans m.made_at c.args.off c.args.len ops))
    c.map_id-id.ensures
    c.sync_loans.ensures.there)) in
    let maps =
    are-synced h c.requires.wired k o there on c.copy_part.new.map c.copy_part.ensures.map
    c.copy_part.new.memory.memory c.args.off c.args.len ops c.copy_part.ensures.view c.requires.range alone fine
    (insert h.maps.map k (record o { map = c.copy_part.new.map })) c.sync_loans.new.loans.loans refl loans in
    let prepared = synced.prepared ∙ same.prepared in
    record {
      covered = λ a. ap (λ b. contains_key b a) marks
          ∙ has_set_all h.loans.bytes (lost h.loans.loans k c.args.off c.args.len ops) false are a
          ∙ h.covered a ∙ sym (c.copy_part.ensures.same.frames (a / 4096));
      reaches = λ va. ap (λ t. t va)
          (same-physical h.memory.memory c.copy_part.new.memory.memory c.copy_part.ensures.same) ∙ h.reaches va;
      framed = λ f own. c.copy_part.ensures.same.frames f ∙ h.framed f own;
      placed = same-placed h.memory.memory c.copy_part.new.memory.memory c.copy_part.ensures.same h.placed;
      standing = same-standing h.memories.map h.memory.memory c.copy_part.new.memory.memory
          c.copy_part.ensures.same h.standing;
      tag_places = h.tag_places;
      map_places = h.map_places;
      memory_places = h.memory_places;
      ring_places = h.ring_places;
      loaded = maps.loaded;
      unlent = maps.unlent;
      promised = maps.promised;
      own_returns = h.own_returns;
      returning = maps.returning;
      tried = maps.tried;
      awaiting = put-awaiting h c.sync_loans.new.loans.prepared prepared k (record o { map = c.copy_part.new.map })
          (ap (λ m. held_waiting_load m.stage) c.copy_part.ensures.map.is);
      ready = still-ready h c.sync_loans.new.loans.prepared prepared;
    }

pub returns-then-is_mixed : goal.returns-then-is_mixed
returns-then-is_mixed c =
    let h = c.args.holdings.now in
    let l = ideal_of h in
    let k = c.args.map in
    let ops = c.args.ops.0 in
    let x = load-there (get h.maps.map k) c.requires.loaded in
    refused-step (part_sync k c.args.off c.args.len ops) _ h c.report.result _ c.report.ensures
    (sym (part-there l k (map_of x.0) (image-some map_of h.maps.map k x.0 x.1) x.2 ops c.args.off c.args.len
    ∙ part-mixed l k (map_of x.0) c.args.off c.args.len ops (sym c.is_mixed.ensures ∙ c.if-is_mixed.true)))

pub returns : goal.returns
returns c =
    let h = c.args.holdings.now in
    let l = ideal_of h in
    let k = c.args.map in
    let off = c.args.off in
    let len = c.args.len in
    let ops = c.args.ops.0 in
    let o : KeptMap = c.in-Some.kept.now in
    let there : get h.maps.map k ≡ Some o = sym c.in-Some.ensures.value in
    let on = sym (ap has_load there) ∙ c.requires.loaded in
    let alone : is_mixed ops ≡ false = sym c.is_mixed.ensures ∙ c.if-is_mixed.false in
    let same = c.reserve_extents.ensures.same in
    let answer = c.sync_loans.ensures.answer
    ∙ (λ i. sync_answer (same.loans i) (c.map_id-id.ensures i).made_at off len ops) in
    let fine : sync_answer h.loans.loans k off len ops ≡ Fine = sym answer ∙ c.in_default.is in
    let before = c.reserve_extents.new.loans in
    let synced : IsSynced before c.sync_loans.new.loans c.map_id-id.result.made_at off len ops =
    rw c.in_default.is at c.sync_loans.ensures.done in
    let marks : c.sync_loans.new.loans.bytes ≡ set_all h.loans.bytes (lost h.loans.loans k off len ops) false =
    synced.bytes
    ∙ (λ i. set_all (same.bytes i) (lost (same.loans i) (c.map_id-id.ensures i).made_at off len ops) false) in
    let loans : c.sync_loans.new.loans.loans ≡ lending.synced h.loans.loans k off len ops =
    synced.loans ∙ (λ i. lending.synced (same.loans i) (c.map_id-id.ensures i).made_at off len ops) in
    let are : AreIn h.loans.bytes (lost h.loans.loans k off len ops) =
    subst (λ b. AreIn b (lost h.loans.loans k off len ops)) same.bytes
    (subst (λ ls. AreIn before.bytes (lost ls k off len ops)) same.loans
    (subst (λ (m : MapId). AreIn before.bytes (lost before.loans m.made_at off len ops)) c.map_id-id.ensures
    c.sync_loans.ensures.there)) in
    let shares = c.copy_part.ensures.shares
    ∙ ap (λ xs. counted ((prewrite ops || postread ops) && list_any (has_byte_of off len) (held_chunks o.map.stage))
    (option_map (λ (z : ZoneId). z.0) o.map.zone) (kept_share xs)) c.reserve.ensures.items in
    let is : sync_part k (map_of o) off len ops l ≡ part_sync k off len ops l =
    sym (part-there l k (map_of o) (image-some map_of h.maps.map k o there) on ops off len) in
    done-step
    (part-done h c.requires.wired k o there on c.copy_part.new.map c.copy_part.ensures.map
    c.copy_part.new.memory.memory off len ops c.copy_part.ensures.view c.requires.range alone fine
    c.sync_loans.new.loans.bytes c.sync_loans.new.loans.loans
    (insert h.maps.map k (record o { map = c.copy_part.new.map })) c.copy_part.new.shares.items are marks
    loans refl shares
    ∙ is)
    (part-wire h c.requires.wired k o there on c.copy_part.new.map c.copy_part.ensures.map
    c.copy_part.new.memory.memory off len ops c.copy_part.ensures.view c.requires.range alone fine
    ∙ ap (λ s. if_done s (wires.wire_synced k off len ops l (wire_of h)) (wire_of h)) is) refl refl refl
