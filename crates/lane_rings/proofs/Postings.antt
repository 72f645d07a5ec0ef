-- What is posted to a ring.
use Rattle.std.proofs.Common.{◌≡◌, ℕ, ◌+◌, ◌==◌, ◌<◌, ◌≤◌, ◌^◌, ◌&&◌, ◌⊎◌, inl, inr, not, Bool, true, false, nat_lt}
use Rattle.std.proofs.Common.{is_some}
use Rattle.std.proofs.Common.{if◌then◌else◌, List, [], ◌∷◌, ◌++◌, length, take, Option, Some, None, unwrap_or, zero}
use Rattle.std.proofs.Common.{suc, Result, Ok}
use Rattle.std.proofs.Common.{IfNone, refl, sym, ap, ◌∙◌, subst, arith}
use Rattle.std.specs.declared.alloc.AllocError.{AllocError}
use Rattle.std.proofs.lemmas.List.Concat.{flat_map-cons}
use Rattle.std.specs.FinMap.{get}
use Rattle.std.specs.List.{AllByRecursion}
use Rattle.busdma_base.specs.declared.journals.answer.Answer.{Answer}
use Rattle.busdma_base.specs.declared.journals.answer.Answer.TheVariants as answer
use Rattle.busdma_machine.specs.declared.machine.address.Segment.{Segment}
use Rattle.busdma_machine.specs.declared.report.Errno.TheVariants.{EINVAL}
use Rattle.busdma_machine.specs.declared.report.Report.{Report}
use Rattle.busdma_machine.specs.declared.report.ReportName.TheVariants.{Absent}
use Rattle.busdma_machine.specs.Machine.Wire.{Wire, put}
use Rattle.busdma_rules.specs.declared.descriptor.Descriptor.{Descriptor}
use Rattle.busdma_rules.specs.Rings.Descriptors.{descriptor_bytes}
use Rattle.ring_device.specs.Ends.{EndsLow}
use Rattle.busdma_rules.specs.Rings.Ranges.{address_of}
use Rattle.ideal_lane.specs.Accesses.{cpu_write}
use Rattle.ideal_lane.specs.Asking.{Asking}
use Rattle.ideal_lane.specs.Loads.{is_device}
use Rattle.ideal_lane.specs.Outcomes.{Outcome, gives, load_length, unless_absent, unless_past}
use Rattle.ideal_lane.specs.Outcomes.{unless_unloaded}
use Rattle.ideal_lane.specs.Rings.{is_work, may_post, no_ring, posted, slot_place}
use Rattle.ideal_lane.specs.Rings as rings
use Rattle.ideal_lane.specs.State.{LaneMap, LaneMemory, LaneRing, LaneState}
use Rattle.ideal_lane.specs.Unloads.{segments_in}
use Rattle.ideal_wire.specs.Traces.{stage_at, stage_in}
use Rattle.ideal_wire.specs.WireStep as wires
use Rattle.ideal_wire.specs.WireStep.{if_done, place_bytes}
use Rattle.busdma_machine.specs.Machine.PageList.{page_frames}
use Rattle.busdma_machine.specs.Runs.{run_of}
use Rattle.device_model.specs.Access.{IsThere, bus_range}
use Rattle.device_model.proofs.Walk.{bytes_length}
use Rattle.dma_map.specs.MapView.{segments_of}
use Rattle.loan_table.specs.Table.{buffer_of}
use Rattle.phys_memory.specs.Memory.{FrameMemory}
use Rattle.busdma_rules.specs.Segments.Segmentation.{segment_bytes}
use Rattle.ideal_wire.specs.Laid.{is_behind}
use Rattle.lane_state.specs.declared.holdings.Holdings.{Holdings}
use Rattle.lane_state.specs.declared.kept.KeptMap.{KeptMap}
use Rattle.lane_state.specs.declared.kept.KeptMemory.{KeptMemory}
use Rattle.lane_state.specs.declared.kept.KeptRing.{KeptRing}
use Rattle.lane_state.specs.Covered.{has_load}
use Rattle.lane_state.specs.Ideal.{ideal_of}
use Rattle.lane_state.specs.Kept.{device_in, map_of, memory_of, kept_ring}
use Rattle.lane_state.specs.Wire.{IsWired, wire_of}
use Rattle.lane_state.proofs.Devices.{bytes-long, is-reached}
use Rattle.lane_state.proofs.MapValues.{image-none, image-some}
use Rattle.lane_access.specs.Steps.{IsLocalStep}
use Rattle.lane_access.proofs.Steps.{idle-step, same-step}
use Rattle.lane_rings.specs.declared.posts.Posting.{Posting}
use Rattle.lane_rings.specs.Ringing.{IsPosted, IsUnposted, post_step, post_wire}
use Rattle.lane_access.proofs.DeviceReads.{ends, load-there, loads}

abbrev absent : Answer
absent = answer.Report (record { name = Absent; at = 0 })

module _ (h : Holdings) (k : ℕ) (p : Posting) where
  abbrev l : LaneState
  l = ideal_of h

  abbrev step : Asking Outcome
  step = post_step k p l

  -- the post leaves all holdings and has this answer
  abbrev Stays : Answer → Type 0
  Stays a = IsLocalStep (post_step k p) (post_wire k p) h h (Ok a)

  -- what follows after the ring, and then its memory, is found
  abbrev behind : LaneRing → LaneMap → Asking Outcome
  behind r o = if may_post r p.slot p.map o p.off p.len p.kind l
      then cpu_write (slot_place r p.slot) (descriptor_bytes (posted (segments_in o.stage) p.off p.len p.kind p.fill)) l
      else gives l (answer.Refused EINVAL)

  abbrev with_load : LaneRing → Asking Outcome
  with_load r = unless_unloaded p.map l (λ o. unless_past p.map p.off p.len l (behind r o))

  abbrev with_ring : LaneRing → Asking Outcome
  with_ring r = unless_absent (get l.mems r.mem) l (λ (x : LaneMemory). with_load r)

  -- a post that is refused writes nothing
  unposted : (a b : Answer) → a ≡ b → ((after w : Wire) → wires.if_answered b after w ≡ w) → gives l b ≡ step → Stays a
  unposted a b told idle is =
      let after = put (place_bytes l (slot_place (rings.ring_of l k) p.slot) 16)
      (descriptor_bytes (posted (segments_in (stage_at l p.map)) p.off p.len p.kind p.fill)) (wire_of h) in
      idle-step (post_step k p) (post_wire k p) h a b told is
      (sym (idle after (wire_of h)) ∙ ap (λ s. if_done s after (wire_of h)) is)

  -- there is no such ring
  pub post-none : (a : Answer) → a ≡ absent → get h.rings.map k ≡ None → Stays a
  post-none a told none =
      unposted a absent told (λ after w. refl)
      (sym (ap (λ o. unless_absent o l with_ring) (image-none kept_ring h.rings.map k none)))

  module _ (q : KeptRing) (ring : get h.rings.map k ≡ Some q) where
    abbrev r : LaneRing
    r = kept_ring q

    is-ring : get l.rings k ≡ Some r
    is-ring = image-some kept_ring h.rings.map k q ring

    found : step ≡ with_ring r
    found = ap (λ o. unless_absent o l with_ring) is-ring

    -- the ring's memory does not exist
    pub post-absent : (a : Answer) → a ≡ absent → get h.memories.map q.mem ≡ None → Stays a
    post-absent a told none =
        unposted a absent told (λ after w. refl)
        (sym (found ∙ ap (λ o. unless_absent o l (λ (x : LaneMemory). with_load r))
        (image-none memory_of h.memories.map q.mem none)))

    module _ (x : KeptMemory) (memory : get h.memories.map q.mem ≡ Some x) where
      kept : step ≡ with_load r
      kept =
          found ∙ ap (λ o. unless_absent o l (λ (x : LaneMemory). with_load r))
          (image-some memory_of h.memories.map q.mem x memory)

      -- the map is not loaded
      pub post-unloaded : (u : Report) →
          ((s : LaneMap → Asking Outcome) → unless_unloaded p.map l s ≡ gives l (answer.Report u)) →
          Stays (answer.Report u)
      post-unloaded u e =
          unposted (answer.Report u) (answer.Report u) refl (λ after w. refl)
          (sym (kept ∙ e (λ o. unless_past p.map p.off p.len l (behind r o))))

      module _ (on : has_load (get h.maps.map p.map) ≡ true) where
        abbrev load : (y : KeptMap) × (get h.maps.map p.map ≡ Some y) × (has_load (Some y) ≡ true)
        load = load-there (get h.maps.map p.map) on

        abbrev o : LaneMap
        o = map_of load.0

        there : get l.maps p.map ≡ Some o
        there = image-some map_of h.maps.map p.map load.0 load.1

        loaded : step ≡ unless_past p.map p.off p.len l (behind r o)
        loaded = kept ∙ loads l p.map o there load.2 (λ y. unless_past p.map p.off p.len l (behind r y))

        -- the range reaches past the end
        pub post-past : (u : Report) →
            ((s : Asking Outcome) → unless_past p.map p.off p.len l s ≡ gives l (answer.Report u)) →
            Stays (answer.Report u)
        post-past u e =
            unposted (answer.Report u) (answer.Report u) refl (λ after w. refl) (sym (loaded ∙ e (behind r o)))

        module _ (range : p.off + p.len ≤ load_length l p.map) where
          ready : step ≡ behind r o
          ready = loaded ∙ ends l p.map p.off p.len range (behind r o)

          -- the bytes cannot be posted
          pub post-refused : IsUnposted l r p → Stays (answer.Refused EINVAL)
          post-refused unfit =
              unposted (answer.Refused EINVAL) (answer.Refused EINVAL) refl (λ after w. refl)
              (sym (ready ∙ ap (λ b. if b
              then cpu_write (slot_place r p.slot)
              (descriptor_bytes (posted (segments_in o.stage) p.off p.len p.kind p.fill)) l
              else gives l (answer.Refused EINVAL)) (unfit o there)))

          -- the bytes are posted
          module _ (d : Descriptor) (is : IsPosted l r p d) (size : length (descriptor_bytes d) ≡ 16) where
            same : is.map ≡ o
            same = let e : Some is.map ≡ Some o = sym is.there ∙ there in cc

            write : cpu_write (slot_place r p.slot) (descriptor_bytes d) l ≡ step
            write =
                sym (ready
                ∙ ap (λ b. if b
                then cpu_write (slot_place r p.slot)
                (descriptor_bytes (posted (segments_in o.stage) p.off p.len p.kind p.fill)) l
                else gives l (answer.Refused EINVAL))
                (ap (λ y. may_post r p.slot p.map y p.off p.len p.kind l) (sym same) ∙ is.may)
                ∙ ap (λ (y : LaneMap). cpu_write (slot_place r p.slot)
                (descriptor_bytes (posted (segments_in y.stage) p.off p.len p.kind p.fill)) l) (sym same)
                ∙ ap (λ e. cpu_write (slot_place r p.slot) (descriptor_bytes e) l) (sym is.is))

            wired : wires.wire_cpu_write (slot_place r p.slot) (descriptor_bytes d) l (wire_of h)
                ≡ post_wire k p l (wire_of h)
            wired =
                let w = wire_of h in
                ap (λ s. if_done s (put (place_bytes l (slot_place r p.slot) (length (descriptor_bytes d)))
                (descriptor_bytes d) w) w) write
                ∙ (λ i. if_done step (put (place_bytes l (slot_place (ring-is i) p.slot) (size i))
                (descriptor_bytes (told i)) w) w)
              where
                ring-is : r ≡ rings.ring_of l k
                ring-is = sym (ap (λ o. unwrap_or o no_ring) is-ring)

                told : d ≡ posted (segments_in (stage_at l p.map)) p.off p.len p.kind p.fill
                told =
                    is.is ∙ ap (λ y. posted (segments_in y) p.off p.len p.kind p.fill)
                    (sym (ap stage_in is.there))

            -- the driver writes the descriptor
            pub post-written : (vs : List ℕ) → vs ≡ descriptor_bytes d → (n : Holdings)
                (v : Result Answer AllocError) →
                IsLocalStep (cpu_write (slot_place r p.slot) vs) (wires.wire_cpu_write (slot_place r p.slot) vs) h n v →
                IsLocalStep (post_step k p) (post_wire k p) h n v
            post-written vs told n v =
                same-step (cpu_write (slot_place r p.slot) vs) (post_step k p)
                (wires.wire_cpu_write (slot_place r p.slot) vs) (post_wire k p) h n v
                (ap (λ bytes. cpu_write (slot_place r p.slot) bytes l) told ∙ write)
                (ap (λ bytes. wires.wire_cpu_write (slot_place r p.slot) bytes l (wire_of h)) told ∙ wired)

-- ---- whether the bytes may be posted

-- one of these conditions fails
pub one-false : (a b c d e : Bool) → (a ≡ false) ⊎ ((b ≡ false) ⊎ ((c ≡ true) ⊎ ((d ≡ true) ⊎ (e ≡ false)))) →
    (a && (b && (not c && (not d && e)))) ≡ false
one-false false b c d e h = refl
one-false true false c d e h = refl
one-false true true true d e h = refl
one-false true true false true e h = refl
one-false true true false false false h = refl
one-false true true false false true (inl h) = h
one-false true true false false true (inr (inl h)) = h
one-false true true false false true (inr (inr (inl h))) = sym h
one-false true true false false true (inr (inr (inr (inl h)))) = sym h
one-false true true false false true (inr (inr (inr (inr h)))) = h

-- all conditions are met
pub all-true : (a b c d e : Bool) → a ≡ true → b ≡ true → c ≡ false → d ≡ false → e ≡ true →
    (a && (b && (not c && (not d && e)))) ≡ true
all-true true true false false true p q r s t = refl
all-true false b c d e p q r s t = p
all-true true false c d e p q r s t = q
all-true true true true d e p q r s t = absurd (cc)
all-true true true false true e p q r s t = absurd (cc)
all-true true true false false false p q r s t = t

-- the range is not in one segment
pub not-posted : (l : LaneState) (r : LaneRing) (p : Posting) (o : LaneMap) → get l.maps p.map ≡ Some o →
    address_of p.off p.len (segments_in o.stage) ≡ None → IsUnposted l r p
not-posted l r p o there none x found =
    let same : o ≡ x = let e : Some o ≡ Some x = sym there ∙ found in cc in
    one-false (nat_lt p.slot r.slots) (is_work p.kind p.len) (p.map == r.mem) (is_device l x)
    (is_some (address_of p.off p.len (segments_in x.stage)))
    (inr (inr (inr (inr (ap (λ (y : LaneMap). is_some (address_of p.off p.len (segments_in y.stage))) (sym same)
    ∙ ap is_some none)))))

pub none-if : {X : Type 0} {P : Type 0} (o : Option X) → P → IfNone o P
none-if None p = p
none-if (Some x) p = tt

-- ---- the ends of segments

parts-all : (P : ℕ → Type 0) (xs ys : List ℕ) → AllByRecursion P (xs ++ ys) →
    AllByRecursion P xs × AllByRecursion P ys
parts-all P [] ys h = (tt, h)
parts-all P (x ∷ xs) ys h = let rest = parts-all P xs ys h.1 in ((h.0, rest.0), rest.1)

last-low : (n a top : ℕ) → AllByRecursion (λ b. b < top) (run_of a (suc n)) → a + n < top
last-low zero a top h = omega (arith, h.0)
last-low (suc n) a top h = omega (arith, last-low n (a + 1) top h.1)

-- segments whose bytes lie low end low
ends-of : (ss : List Segment) → AllByRecursion (λ b. b < 2 ^ 42) (segment_bytes ss) → AllByRecursion EndsLow ss
ends-of [] h = tt
ends-of (s ∷ ss) h =
    let parts = parts-all (λ b. b < 2 ^ 42) (run_of s.addr.0 s.len) (segment_bytes ss)
    (subst (AllByRecursion (λ b. b < 2 ^ 42)) (flat_map-cons (λ (x : Segment). run_of x.addr.0 x.len) s ss) h) in
    (by s.len parts.0, ends-of ss parts.1)
  where
    by : (n : ℕ) → AllByRecursion (λ b. b < 2 ^ 42) (run_of s.addr.0 n) → 0 < n → s.addr.0 + n ≤ 2 ^ 64
    by zero all some = absurd (omega arith)
    by (suc n) all some = omega (arith, last-low n s.addr.0 (2 ^ 42) all)

numbered : (m : FrameMemory) (frames given : List ℕ) → AllByRecursion (IsThere m frames) given →
    AllByRecursion (λ b. b < 2 ^ 42) given
numbered m frames [] h = tt
numbered m frames (a ∷ rest) h = (h.0.numbered, numbered m frames rest h.1)

whole-range : (n : ℕ) (xs : List ℕ) → length xs ≡ n → take n xs ≡ xs
whole-range zero [] e = refl
whole-range (suc n) [] e = refl
whole-range zero (x ∷ xs) e = absurd (omega (arith, e))
whole-range (suc n) (x ∷ xs) e = ap (λ ys. x ∷ ys) (whole-range n xs (omega (arith, e)))

pub ends-low : (h : Holdings) (wired : IsWired h) (k : ℕ) (o : KeptMap) (there : get h.maps.map k ≡ Some o) →
    has_load (Some o) ≡ true → is_behind (ideal_of h) k ≡ false → AllByRecursion EndsLow (segments_of o.map.stage)
ends-low h wired k o there on plain =
    let n : ℕ = length (buffer_of h.loans k) in
    let reached = is-reached h wired k o there on plain 0 n (omega arith) in
    let long : length (segment_bytes (segments_of o.map.stage)) ≡ n =
    bytes_length (segments_of o.map.stage) ∙ bytes-long h wired k o there on plain in
    ends-of (segments_of o.map.stage)
    (subst (AllByRecursion (λ b. b < 2 ^ 42)) (whole-range n (segment_bytes (segments_of o.map.stage)) long)
    (numbered h.memory.memory (page_frames (device_in o.map.stage).pages)
    (bus_range 0 n (segments_of o.map.stage)) reached.there))
