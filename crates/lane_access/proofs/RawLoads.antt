-- The loads of IOMMU tags' maps that a driver holds, where a device reaches them.
use Rattle.std.proofs.Common.{◌≡◌, ℕ, ◌+◌, ◌<◌, ◌≤◌, ◌^◌, Bool, true, false, List, [], ◌∷◌, length, Option, Some}
use Rattle.std.proofs.Common.{None, is_some, unwrap_or, refl}
use Rattle.std.proofs.Common.{sym, ap, ◌∙◌, arith}
use mathlib.Core.Logic.{∥∥₁_elim}
use Rattle.std.proofs.Props.{props}
use Rattle.std.proofs.lemmas.List.{length-map}
use Rattle.std.specs.FinMap.{entries, get}
use Rattle.busdma_machine.specs.declared.report.ReportName.{ReportName}
use Rattle.busdma_machine.specs.Machine.Wire.{Placed, buses}
use Rattle.device_model.proofs.Walk.{bytes_length}
use Rattle.dma_map.specs.MapView as held
use Rattle.busdma_rules.specs.Iommu.Space.{translated}
use Rattle.busdma_rules.specs.declared.position.Position.{Position}
use Rattle.busdma_rules.specs.Lending.Loans.{addresses_of, loan_of}
use Rattle.loan_table.specs.Table.{HasMap, buffer_of}
use Rattle.busdma_rules.specs.Segments.Obeying.{segments_bytes}
use Rattle.busdma_rules.specs.Segments.Segmentation.{segment_bytes}
use Rattle.ideal_lane.specs.Accesses.{raw_refusal}
use Rattle.ideal_lane.specs.Loads.{is_device}
use Rattle.ideal_lane.specs.Outcomes.{is_loaded}
use Rattle.ideal_lane.specs.Standing.{Stands}
use Rattle.ideal_lane.specs.State.{LaneState}
use Rattle.ideal_lane.specs.Syncs.{bounced_in}
use Rattle.ideal_lane.specs.Unloads.{segments_in}
use Rattle.ideal_wire.specs.Mapped.{AreMapped}
use Rattle.ideal_wire.specs.Spaced.{is_spaced}
use Rattle.ideal_wire.specs.Traces.{stage_at, traces_of}
use Rattle.ideal_wire.proofs.Faithful.Buses.{placed-buffers}
use Rattle.ideal_wire.proofs.Faithful.PlacedLoads.{own-place, place-of}
use Rattle.ideal_wire.proofs.Laid.Positions.{found_one}
use Rattle.ideal_wire.proofs.Faithful.RawAccess.{AreFound, raw-reached}
use Rattle.lane_state.specs.declared.holdings.Holdings.{Holdings}
use Rattle.lane_state.specs.declared.kept.KeptLoad.{KeptLoad}
use Rattle.lane_state.specs.declared.kept.KeptMap.{KeptMap}
use Rattle.lane_access.specs.declared.raw.LoadPlace.{LoadPlace}
use Rattle.lane_state.specs.Covered.{has_load}
use Rattle.lane_state.specs.Ideal.{ideal_of}
use Rattle.lane_state.specs.Kept.{map_of, kept_stage}
use Rattle.lane_access.specs.Raw.{AreShortOf, IsStanding}
use Rattle.lane_state.specs.Wire.{IsWired}
use Rattle.lane_state.proofs.MapValues.{image-some}
use Rattle.lane_access.proofs.RawPlaces.{AreOfTable, of-table, segments-same}

-- what is not loaded has no segments
no-segments : (s : held.HeldStage KeptLoad) → is_loaded (kept_stage s) ≡ false → segments_bytes (held.segments_of s) ≡ 0
no-segments held.idle h = refl
no-segments (held.waiting load_at callback room) h = refl
no-segments (held.loaded bounced segments pages) h = absurd (cc)
no-segments (held.lent bounced segments frames) h = absurd (cc)
no-segments held.returning h = refl

module _ (h : Holdings) (wired : IsWired h) where
  abbrev l : LaneState
  l = ideal_of h

  -- a tag of which an address is reached is an IOMMU tag
  pub spaced-tag : (t a : ℕ) → is_some (translated (l.spaces t) a) ≡ true → is_spaced l t ≡ true
  spaced-tag t a some = by (is_spaced l t) refl
    where
      by : (b : Bool) → is_spaced l t ≡ b → is_spaced l t ≡ true
      by true e = e
      by false e =
          let none : is_some (translated (l.spaces t) a) ≡ false =
          ap (λ s. is_some (translated s a)) (wired.spaced.none t e) in
          absurd (cc)

  module _ (t a : ℕ) (some : is_some (translated (l.spaces t) a) ≡ true) where
    -- the segments of a load of its maps are as long as the load
    long : (k : ℕ) (x : KeptMap) → get h.maps.map k ≡ Some x → x.tag ≡ t → has_load (Some x) ≡ true →
        segments_bytes (held.segments_of x.map.stage) ≡ length (buffer_of h.loans k)
    long k x there tag on =
        let one : IsProp (segments_bytes (held.segments_of x.map.stage) ≡ length (buffer_of h.loans k)) =
        hlevel (props) in
        ∥∥₁_elim wired.mapped one by
      where
        device : is_device l (map_of x) ≡ true
        device = ap (is_spaced l) tag ∙ spaced-tag t a some

        by : AreMapped l → segments_bytes (held.segments_of x.map.stage) ≡ length (buffer_of h.loans k)
        by mapped =
            let find : ℕ → Option ℕ = translated (l.spaces x.tag) in
            let segments = segments_in (kept_stage x.map.stage) in
            ap segments_bytes (sym (segments-same x.map.stage))
            ∙ sym (bytes_length segments)
            ∙ sym (length-map (segment_bytes segments) find)
            ∙ ap length (mapped.each k (map_of x) (image-some map_of h.maps.map k x there) device on).found
            ∙ length-map (buses (traces_of l k)) (λ (b : ℕ). Some b)
            ∙ length-map (traces_of l k) (λ (p : Placed). p.bus)
            ∙ sym (length-map (traces_of l k) (λ (p : Placed). p.pa))
            ∙ ap length (placed-buffers (bounced_in (stage_at l k)) 0
            (addresses_of (loan_of h.loans.loans k).positions))
            ∙ length-map (loan_of h.loans.loans k).positions (λ (p : Position). p.pa)

    -- the segments of a tag's maps are short if all buffers are short
    pub short-of : ((m : ℕ) → length (buffer_of h.loans m) < 2 ^ 64) → AreShortOf t (entries h.maps.map)
    short-of short =
        all-short (entries h.maps.map) (of-table h.maps.map)
      where
        one : (k : ℕ) (x : KeptMap) → get h.maps.map k ≡ Some x → x.tag ≡ t →
            segments_bytes (held.segments_of x.map.stage) < 2 ^ 64
        one k x there tag = by (has_load (Some x)) refl
          where
            by : (b : Bool) → has_load (Some x) ≡ b → segments_bytes (held.segments_of x.map.stage) < 2 ^ 64
            by true on = let size = long k x there tag on in let few = short k in omega (arith, size, few)
            by false off = let size = no-segments x.map.stage off in omega (arith, size)

        all-short : (es : List (ℕ × KeptMap)) →
            AreOfTable h.maps.map es → AreShortOf t es
        all-short [] of = tt
        all-short (e ∷ es) of = (one e.0 e.1 of.0, all-short es of.1)

    -- bytes of the segments of one of its maps are bytes of a load
    pub record Standing (p : LoadPlace) (n : ℕ) : Type 0 where
      pub there : HasMap h.loans p.map
      pub range : p.at + n ≤ length (buffer_of h.loans p.map)

    pub stands-there : (p : LoadPlace) (n : ℕ) → 0 < n → IsStanding h.maps.map t p n → Standing p n
    stands-there p n some_byte s = by (has_load (Some s.map)) refl
      where
        by : (b : Bool) → has_load (Some s.map) ≡ b → Standing p n
        by true on =
            let size = long p.map s.map s.there s.tag on in
            let within = s.within in
            record {
              there = h.loaded p.map ∙ ap has_load s.there ∙ on;
              range = omega (arith, size, within);
            }
        by false off =
            let none = no-segments s.map.map.stage off in
            let within = s.within in
            absurd (omega (arith, none, within, some_byte))

  module _ (stands : Stands l) where
    pub found-by : AreMapped l → AreFound l
    found-by mapped = record { stands = stands; laid = wired.laid; spaced = wired.spaced; mapped = mapped }

    -- a byte at a device address of which an access is not refused is one of the driver's own
    pub raw-own : (unlent : ReportName) (refusal : Position → Option ReportName) (t a : ℕ) →
        raw_refusal unlent refusal l t a ≡ None →
        is_some (l.memory (unwrap_or (translated (l.spaces t) a) 0)) ≡ true
    raw-own unlent refusal t a fine =
        let one : IsProp (is_some (l.memory (unwrap_or (translated (l.spaces t) a) 0)) ≡ true) = hlevel (props) in
        ∥∥₁_elim wired.mapped one (λ mapped.
        let s = raw-reached l (found-by mapped) unlent refusal t a fine in
        let q = place-of l wired.laid s.by_map s.place s.placed s.stood in
        let same : s.placed.pa ≡ unwrap_or (translated (l.spaces t) a) 0 =
        sym q.same ∙ ap (λ (p : Position). p.pa) (found_one _ q.position s.position q.at s.at) ∙ s.is_pa in
        ap (λ b. is_some (l.memory b)) (sym same)
        ∙ wired.laid.owned s.placed.pa (own-place l wired.laid s.by_map s.place s.placed s.stood))
