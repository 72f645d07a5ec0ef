-- The maps at which the device of a ring may do what a descriptor says.
use Rattle.std.proofs.Common.{◌≡◌, ℕ, ◌+◌, ◌-◌, ◌==◌, ◌<◌, ◌≤◌, ◌^◌, Bool, true, false, nat_le}
use Rattle.std.proofs.Common.{if◌then◌else◌, List, [], ◌∷◌, length, Option, Some, None, refl, sym, ap, ◌∙◌, arith}
use Rattle.std.proofs.lemmas.Bool.{and_parts, leb-true, or_parts}
use Rattle.std.proofs.lemmas.List.Sums.{sum_by-cons}
use Rattle.std.specs.FinMap.{get}
use Rattle.std.specs.Option.{option_map, option_map_or}
use Rattle.busdma_machine.specs.declared.machine.address.Segment.{Segment}
use Rattle.dma_map.specs.MapView as held
use Rattle.loan_table.specs.Table.{buffer_of}
use Rattle.busdma_rules.specs.declared.descriptor.Descriptor.{Descriptor}
use Rattle.busdma_rules.specs.Rings.Ranges.{segments_byte_count, segment_holds, place_of}
use Rattle.ideal_lane.specs.Loads.{is_device}
use Rattle.ideal_lane.specs.Outcomes.{is_loaded}
use Rattle.ideal_lane.specs.Rings.{is_left_out}
use Rattle.ideal_lane.specs.State.{LaneMap, LaneState}
use Rattle.ideal_lane.specs.Unloads.{segments_in}
use Rattle.ideal_wire.specs.Laid.{is_behind}
use Rattle.lane_state.specs.declared.holdings.Holdings.{Holdings}
use Rattle.lane_state.specs.declared.kept.KeptLoad.{KeptLoad}
use Rattle.lane_state.specs.declared.kept.KeptMap.{KeptMap}
use Rattle.lane_state.specs.Covered.{has_load}
use Rattle.lane_state.specs.Ideal.{ideal_of}
use Rattle.lane_state.specs.Kept.{map_of, kept_stage}
use Rattle.lane_state.specs.Wire.{IsWired}
use Rattle.lane_state.proofs.Devices.{bytes-long}
use Rattle.lane_state.proofs.MapValues.{image-some}
use Rattle.lane_rings.specs.Ringing.{candidate_in}

module _ (l : LaneState) (d : Descriptor) (own k : ℕ) (o : LaneMap) where
  -- a map that is left out
  pub left-out : is_left_out own l (k, o) ≡ true → None ≡ candidate_in d own l (k, o)
  left-out out = sym (ap (λ b. if b then None
      else option_map (λ off. record { map = k; off = off }) (place_of d.addr d.len (segments_in o.stage))) out)

  -- a map that is not left out and has the bytes
  pub candidate-at : is_left_out own l (k, o) ≡ false → (off : ℕ) →
      place_of d.addr d.len (segments_in o.stage) ≡ Some off →
      Some (record { map = k; off = off }) ≡ candidate_in d own l (k, o)
  candidate-at kept off place = sym (ap (λ b. if b then None
      else option_map (λ off. record { map = k; off = off }) (place_of d.addr d.len (segments_in o.stage))) kept
      ∙ ap (option_map (λ off. record { map = k; off = off })) place)

-- a map that is not left out has a tag that is not an IOMMU tag
pub none-behind : (h : Holdings) (own k : ℕ) (o : KeptMap) → get h.maps.map k ≡ Some o →
    is_left_out own (ideal_of h) (k, map_of o) ≡ false → is_behind (ideal_of h) k ≡ false
none-behind h own k o there kept =
    ap (λ y. option_map_or (is_device (ideal_of h)) y false) (image-some map_of h.maps.map k o there)
    ∙ (or_parts (k == own) (is_device (ideal_of h) (map_of o)) kept).1

-- what is found lies within the segments
within-segments : (addr len : ℕ) (ss : List Segment) (at : ℕ) → place_of addr len ss ≡ Some at → at + len
    ≤ segments_byte_count ss
within-segments addr len [] at e = absurd (cc)
within-segments addr len (s ∷ ss) at e =
    by (λ p place. within-segments addr len ss p place) (segment_holds addr len s) refl e
  where
    Later : Type 0
    Later = (p : ℕ) → place_of addr len ss ≡ Some p → p + len ≤ segments_byte_count ss

    all : segments_byte_count (s ∷ ss) ≡ s.len + segments_byte_count ss
    all = sum_by-cons (λ (x : Segment). x.len) s ss

    later : Later → (o : Option ℕ) → place_of addr len ss ≡ o → option_map (λ p. s.len + p) o ≡ Some at →
        at + len ≤ segments_byte_count (s ∷ ss)
    later f None place e = absurd (cc)
    later f (Some p) place e =
        let is : s.len + p ≡ at = cc in
        let rest : p + len ≤ segments_byte_count ss = f p place in
        omega (arith, all, is, rest)

    by : Later → (b : Bool) → segment_holds addr len s ≡ b →
        (if b then Some (addr - s.addr.0) else option_map (λ p. s.len + p) (place_of addr len ss)) ≡ Some at →
        at + len ≤ segments_byte_count (s ∷ ss)
    by f true h e =
        let is : addr - s.addr.0 ≡ at = cc in
        let two = and_parts (nat_le s.addr.0 addr) (nat_le (addr + len) (s.addr.0 + s.len)) h in
        let low : s.addr.0 ≤ addr = leb-true s.addr.0 addr two.0 in
        let high : addr + len ≤ s.addr.0 + s.len = leb-true (addr + len) (s.addr.0 + s.len) two.1 in
        omega (arith, all, is, low, high)
    by f false h e = later f (place_of addr len ss) refl e

-- a map without a load has no segment
none-loaded : (s : held.HeldStage KeptLoad) → is_loaded (kept_stage s) ≡ false → held.segments_of s ≡ []
none-loaded held.idle off = refl
none-loaded (held.waiting load_at callback room) off = refl
none-loaded (held.loaded bounced segments pages) off = absurd (cc)
none-loaded (held.lent bounced segments frames) off = absurd (cc)
none-loaded held.returning off = refl

module _ (h : Holdings) (wired : IsWired h) (k : ℕ) (o : KeptMap) (there : get h.maps.map k ≡ Some o)
    (plain : is_behind (ideal_of h) k ≡ false) where
  pub short-segments : length (buffer_of h.loans k) < 2 ^ 64 → segments_byte_count (held.segments_of o.map.stage)
      < 2 ^ 64
  short-segments short = by (has_load (Some o)) refl
    where
      by : (b : Bool) → has_load (Some o) ≡ b → segments_byte_count (held.segments_of o.map.stage) < 2 ^ 64
      by true on = let long = bytes-long h wired k o there on plain in omega (arith, short, long)
      by false off =
          let none : segments_byte_count (held.segments_of o.map.stage) ≡ 0 =
          ap segments_byte_count (none-loaded o.map.stage off) in
          omega (arith, none)

  module _ (d : Descriptor) (off : ℕ) (place : place_of d.addr d.len (held.segments_of o.map.stage) ≡ Some off) where
    pub candidate-loaded : has_load (Some o) ≡ true
    candidate-loaded = by (has_load (Some o)) refl
      where
        by : (b : Bool) → has_load (Some o) ≡ b → b ≡ true
        by true on = refl
        by false no-load =
            let gone : None ≡ Some off = sym (ap (place_of d.addr d.len) (none-loaded o.map.stage no-load)) ∙ place in
            absurd (cc)

    pub candidate-within : off + d.len ≤ length (buffer_of h.loans k)
    candidate-within =
        let long = bytes-long h wired k o there candidate-loaded plain in
        let within = within-segments d.addr d.len (held.segments_of o.map.stage) off place in
        omega (arith, long, within)
