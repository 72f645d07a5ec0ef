-- Loads of which no byte is bounced, for example loads of IOMMU tags' maps.
use Rattle.std.proofs.Common.{◌≡◌, ℕ, ◌+◌, ◌≤◌, Bool, true, false, List, [], ◌∷◌, length, Some, None, refl, sym, ap}
use Rattle.std.proofs.Common.{◌∙◌}
use Rattle.std.proofs.Common.{subst}
use Rattle.std.specs.FinMap.{get}
use Rattle.std.specs.List.{AllZip}
use Rattle.std.specs.Option.{option_map_or}
use Rattle.busdma_machine.specs.declared.bounce.hold.HubReply.TheVariants.{Nothing}
use Rattle.busdma_base.specs.declared.journals.answer.Answer.TheVariants as answer
use Rattle.busdma_machine.specs.declared.machine.chunk.Chunk.{Chunk}
use Rattle.busdma_machine.specs.declared.report.Judged.TheVariants.{Fine}
use Rattle.busdma_machine.specs.Machine.PageList.{page_addresses}
use Rattle.busdma_machine.specs.Machine.Wire.{Placed, buses, put}
use Rattle.busdma_rules.specs.declared.position.Position.{Position}
use Rattle.busdma_rules.specs.Lending.Access.{dev_write_answer}
use Rattle.busdma_rules.specs.Lending.Loans.{addresses_of, load_bytes, loan_of}
use Rattle.loan_table.specs.Table.{buffer_of}
use Rattle.ideal_lane.specs.Accesses.{dev_write}
use Rattle.ideal_lane.specs.Asking.{Asking, by_reply}
use Rattle.ideal_lane.specs.Loads.{is_device}
use Rattle.ideal_lane.specs.Outcomes.{Outcome, gives}
use Rattle.ideal_lane.specs.Standing.{IsPageless, Stands, StandsAt}
use Rattle.ideal_lane.specs.State.{LaneState, LaneMap, LaneTag}
use Rattle.ideal_lane.specs.Syncs.{bounced_in}
use Rattle.ideal_wire.specs.Centre.{IsFaithful}
use Rattle.ideal_wire.specs.Laid.{IsInPage, is_behind}
use Rattle.ideal_wire.specs.Traces.{placed_from, stage_at, stage_in, traces_of}
use Rattle.ideal_wire.specs.WireStep as wires
use Rattle.ideal_wire.specs.WireStep.{if_done, load_buses}
use Rattle.ideal_wire.proofs.Faithful.Calls.{dev_write-faithful}
use Rattle.ideal_wire.proofs.Faithful.BytesPut.{same_range}
use Rattle.lane_state.specs.declared.holdings.Holdings.{Holdings}
use Rattle.lane_state.specs.declared.kept.KeptMap.{KeptMap}
use Rattle.lane_state.specs.Changes.{with_written}
use Rattle.lane_state.specs.Covered.{has_load}
use Rattle.lane_state.specs.Ideal.{ideal_of}
use Rattle.lane_state.specs.Kept.{map_of, kept_stage}
use Rattle.lane_state.specs.Wire.{IsWired, wire_of}
use Rattle.lane_state.proofs.Devices.{Loading, loading}
use Rattle.lane_access.proofs.DeviceWrites.{dev_write-within}
use Rattle.lane_state.proofs.MapValues.{image-some}
use Rattle.lane_state.proofs.Reading.{passes}

-- if no page is held, no chunk is bounced
no-chunk : (cs : List Chunk) (pages : List ℕ) → AllZip IsInPage cs pages → pages ≡ [] → cs ≡ []
no-chunk [] pages paged none = refl
no-chunk (c ∷ cs) [] paged none = absurd paged
no-chunk (c ∷ cs) (p ∷ ps) paged none = absurd (cc)

-- bytes that are not bounced have their own addresses on the bus
own-placed : (at : ℕ) (pas : List ℕ) → buses (placed_from [] at pas) ≡ pas
own-placed at [] = refl
own-placed at (a ∷ pas) = ap (λ xs. a ∷ xs) (own-placed (at + 1) pas)

-- a map that is tested to be none of an IOMMU tag is none
pub not-behind : (h : Holdings) (k : ℕ) (o : KeptMap) → get h.maps.map k ≡ Some o → (b : Bool) →
    ((q : LaneMap) → get (ideal_of h).maps k ≡ Some q → b ≡ is_device (ideal_of h) q) → b ≡ false →
    is_behind (ideal_of h) k ≡ false
not-behind h k o there b is plain =
    let at = image-some map_of h.maps.map k o there in
    ap (λ y. option_map_or (is_device (ideal_of h)) y false) at ∙ sym (is (map_of o) at) ∙ plain

-- a load of which no chunk is bounced
module _ (h : Holdings) (wired : IsWired h) (k : ℕ) (o : KeptMap) (there : get h.maps.map k ≡ Some o)
    (on : has_load (Some o) ≡ true) (none : bounced_in (stage_at (ideal_of h) k) ≡ []) where
  abbrev l : LaneState
  l = ideal_of h

  -- the device reaches the bytes of a range at their own addresses
  pub direct-buses : (off len : ℕ) → load_buses l k off len ≡ load_bytes l.loans k off len
  direct-buses off len =
      same_range (λ (t : Placed). t.bus) (λ (p : Position). p.pa) off len (traces_of l k)
      (loan_of l.loans k).positions
      (ap (λ cs. buses (placed_from cs 0 (addresses_of (loan_of l.loans k).positions))) none
      ∙ own-placed 0 (addresses_of (loan_of l.loans k).positions))

  -- a write of a range that is done
  module _ (off : ℕ) (vs : List ℕ) (range : off + length vs ≤ length (buffer_of h.loans k))
      (fine : Fine ≡ dev_write_answer (loan_of h.loans.loans k) off (length vs)) where
    abbrev pas : List ℕ
    pas = load_bytes l.loans k off (length vs)

    pub direct-step : dev_write k off vs l ≡ gives (with_written pas vs l) answer.Done
    direct-step =
        dev_write-within l k (map_of o) (image-some map_of h.maps.map k o there) on off vs range
        ∙ passes (dev_write_answer (loan_of l.loans k) off (length vs)) l (gives (with_written pas vs l) answer.Done)
        (sym fine)

    pub direct-wire : wires.wire_dev_write k off vs l (wire_of h) ≡ put pas vs (wire_of h)
    direct-wire =
        ap (λ s. if_done s (put (load_buses l k off (length vs)) vs (wire_of h)) (wire_of h)) direct-step
        ∙ ap (λ ks. put ks vs (wire_of h)) (direct-buses off (length vs))

    pub direct-faithful : IsFaithful (with_written pas vs l) (put pas vs (wire_of h))
    direct-faithful =
        subst (IsFaithful (with_written pas vs l)) direct-wire
        (subst (λ (s : Asking Outcome). IsFaithful (by_reply s Nothing).lane
        (wires.wire_dev_write k off vs l (wire_of h)))
        direct-step
        (dev_write-faithful l (wire_of h) wired.apart wired.laid wired.faithful k off vs Nothing))

module _ (h : Holdings) (wired : IsWired h) (stands : Stands (ideal_of h)) (k : ℕ) (o : KeptMap)
    (there : get h.maps.map k ≡ Some o) (on : has_load (Some o) ≡ true)
    (device : is_device (ideal_of h) (map_of o) ≡ true) where
  abbrev lane : LaneState
  lane = ideal_of h

  abbrev x : Loading h wired k o there on
  x = loading h wired k o there on

  unbounced : bounced_in (stage_at lane k) ≡ []
  unbounced =
      ap (λ q. bounced_in (stage_in q)) (image-some map_of h.maps.map k o there)
      ∙ ap (λ s. bounced_in (kept_stage s)) x.stage
      ∙ no-chunk x.bounced (page_addresses x.pages.items) x.load.paged
      (subst (λ s. IsPageless (kept_stage s)) x.stage (st.pageless zone))
    where
      st : StandsAt lane.maxmem lane.tags lane.mems k (map_of o)
      st = stands.each k (map_of o) (image-some map_of h.maps.map k o there)

      zone : (map_of o).zone ≡ None
      zone = st.device (sym (ap (λ q. option_map_or (λ (t : LaneTag). t.device) q
          false) st.there) ∙ device)

  pub own-buses : (off len : ℕ) → load_buses lane k off len ≡ load_bytes lane.loans k off len
  own-buses = direct-buses h wired k o there on unbounced

  module _ (off : ℕ) (vs : List ℕ) (range : off + length vs ≤ length (buffer_of h.loans k))
      (fine : Fine ≡ dev_write_answer (loan_of h.loans.loans k) off (length vs)) where
    abbrev bytes : List ℕ
    bytes = load_bytes lane.loans k off (length vs)

    pub own-step : dev_write k off vs lane ≡ gives (with_written bytes vs lane) answer.Done
    own-step = direct-step h wired k o there on unbounced off vs range fine

    pub own-wire : wires.wire_dev_write k off vs lane (wire_of h) ≡ put bytes vs (wire_of h)
    own-wire = direct-wire h wired k o there on unbounced off vs range fine

    pub own-faithful : IsFaithful (with_written bytes vs lane) (put bytes vs (wire_of h))
    own-faithful = direct-faithful h wired k o there on unbounced off vs range fine

-- a map that is tested to be one of an IOMMU tag is one
pub is-behind : (h : Holdings) (k : ℕ) (o : KeptMap) → get h.maps.map k ≡ Some o → (b : Bool) →
    ((q : LaneMap) → get (ideal_of h).maps k ≡ Some q → b ≡ is_device (ideal_of h) q) → b ≡ true →
    is_device (ideal_of h) (map_of o) ≡ true
is-behind h k o there b is passes_it =
    sym (is (map_of o) (image-some map_of h.maps.map k o there)) ∙ passes_it
