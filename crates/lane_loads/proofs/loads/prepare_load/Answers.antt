use Rattle.std.proofs.Common.{◌≡◌, ℕ, ◌<◌, ◌^◌, Bool, List, Result, Ok, Err, OnOk, sym, ap, ◌∙◌, subst, arith}
use Rattle.std.specs.FinMap.{contains_key, get, insert}
use Rattle.busdma_machine.specs.declared.machine.address.Extent.{Extent}
use Rattle.busdma_machine.specs.Machine.Entry.{entries_addresses}
use Rattle.busdma_machine.specs.Runs.{addresses, byte_count}
use Rattle.busdma_rules.specs.Lending.Loans.{Loans, new_loan}
use Rattle.loan_table.specs.Table.{AreIn}
use Rattle.ideal_lane.specs.Loads.{is_coherent, load_entries}
use Rattle.lane_state.specs.Ideal.{ideal_of}
use Rattle.lane_state.specs.Loading.{bio_of, load_loan, stream_extents}
use Rattle.lane_state.proofs.LoadStreams.{stream-bytes}
use Rattle.lane_state.proofs.Awaiting.{idle-unkept, prepared-awaiting}
use Rattle.lane_state.proofs.OfMaps.{all-of-map, prepared-ready}
use Rattle.busdma_machine.specs.declared.machine.bio.Bio.{Bio}
use Rattle.busdma_machine.specs.declared.name.MapId.{MapId}
use Rattle.loan_table.specs.Table.{Table}
use Rattle.lane_state.specs.declared.holdings.Holdings.{Holdings}
use Rattle.lane_loads.proofs.loads.prepare_load.Goals as goal

on-ok : {T E : Type 0} (P Q : Type 0) (r : Result T E) → (P → Q) → OnOk r P → OnOk r Q
on-ok P Q (Ok x) f h = f h
on-ok P Q (Err e) f h = tt

pub prepare_map-requires-clause-there : goal.prepare_map-requires-clause-there
prepare_map-requires-clause-there c =
    let h = c.args.holdings.now in
    let same : c.deref.result.now ≡ stream_extents c.parts.result = c.deref.ensures.value ∙ c.in_ok-extents.ensures in
    subst (λ (es : List Extent). AreIn h.loans.bytes (addresses es)) (sym same) c.parts.ensures.there

pub prepare_map-requires-clause-total : goal.prepare_map-requires-clause-total
prepare_map-requires-clause-total c =
    let same : c.deref.result.now ≡ stream_extents c.parts.result = c.deref.ensures.value ∙ c.in_ok-extents.ensures in
    let total = c.parts.ensures.total in
    let few : byte_count (stream_extents c.parts.result) < 2 ^ 64 = omega (arith, total) in
    subst (λ (es : List Extent). byte_count es < 2 ^ 64) (sym same) few

-- what is prepared for a map is the loan of its load
prepares : {T E : Type 0} (h : Holdings) (k : ℕ) (b : Bio) (m : MapId) (coherent : Bool) (es : List Extent)
    (r : Result T E) (t : Table) → m.made_at ≡ k → coherent ≡ is_coherent (get (ideal_of h).mems k) →
    addresses es ≡ entries_addresses (load_entries (ideal_of h) b) →
    OnOk r (t.prepared ≡ insert h.loans.prepared m.made_at (new_loan coherent (addresses es))) →
    OnOk r (t.prepared ≡ insert h.loans.prepared k (load_loan (ideal_of h) k b))
prepares h k b m coherent es r t id same bytes =
    on-ok _ _ r (λ e. e ∙ (λ i. insert h.loans.prepared (id i) (new_loan (same i) (bytes i))))

pub returns-clause-prepared : goal.returns-clause-prepared
returns-clause-prepared c =
    let b = bio_of c.args.bytes in
    prepares c.args.holdings.now c.args.map b c.map_id-id.result c.is_coherent-coherent.result c.deref.result.now
    c.prepare_map.result c.prepare_map.new.self (ap (λ (m : MapId). m.made_at) c.map_id-id.ensures)
    c.is_coherent-coherent.ensures
    (ap addresses (c.deref.ensures.value ∙ c.in_ok-extents.ensures ∙ ap stream_extents c.parts.ensures.parts)
    ∙ stream-bytes (ideal_of c.args.holdings.now) b) c.prepare_map.ensures.prepared

pub invariant_of-holdings-clause-awaiting : goal.invariant_of-holdings-clause-awaiting
invariant_of-holdings-clause-awaiting c =
    let h = c.args.holdings.now in
    let b = bio_of c.args.bytes in
    prepared-awaiting h c.args.map (idle-unkept (get h.maps.map c.args.map) c.requires.idle) c.prepare_map.result
    c.prepare_map.new.self (load_loan (ideal_of h) c.args.map b)
    (prepares h c.args.map b c.map_id-id.result c.is_coherent-coherent.result c.deref.result.now
    c.prepare_map.result c.prepare_map.new.self (ap (λ (m : MapId). m.made_at) c.map_id-id.ensures)
    c.is_coherent-coherent.ensures
    (ap addresses (c.deref.ensures.value ∙ c.in_ok-extents.ensures ∙ ap stream_extents c.parts.ensures.parts)
    ∙ stream-bytes (ideal_of h) b) c.prepare_map.ensures.prepared) c.prepare_map.ensures.err

pub invariant_of-holdings-clause-ready : goal.invariant_of-holdings-clause-ready
invariant_of-holdings-clause-ready c =
    let h = c.args.holdings.now in
    let l = ideal_of h in
    let b = bio_of c.args.bytes in
    let bytes = entries_addresses (load_entries l b) in
    prepared-ready h c.args.map c.prepare_map.result c.prepare_map.new.self (is_coherent (get l.mems c.args.map)) bytes
    (all-of-map h c.args.map bytes c.requires.mine)
    (prepares h c.args.map b c.map_id-id.result c.is_coherent-coherent.result c.deref.result.now
    c.prepare_map.result c.prepare_map.new.self (ap (λ (m : MapId). m.made_at) c.map_id-id.ensures)
    c.is_coherent-coherent.ensures
    (ap addresses (c.deref.ensures.value ∙ c.in_ok-extents.ensures ∙ ap stream_extents c.parts.ensures.parts)
    ∙ stream-bytes l b) c.prepare_map.ensures.prepared) c.prepare_map.ensures.err

pub invariant_of-holdings-clause-loaded : goal.invariant_of-holdings-clause-loaded
invariant_of-holdings-clause-loaded c = λ k.
    ap (λ (ls : Loans). contains_key ls k) c.prepare_map.ensures.loans ∙ c.args.holdings.now.loaded k
