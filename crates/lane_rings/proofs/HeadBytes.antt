-- The load of a memory's map: its bytes follow one another from the memory's first on, and none is bounced.
use Rattle.std.proofs.Common.{◌≡◌, ℕ, zero, suc, ◌+◌, ◌/◌, ◌%◌, ◌≤◌, ◌^◌, true, false, Bool, List, [], ◌∷◌}
use Rattle.std.proofs.Common.{◌||◌, cond, map, length, Option, Some, None, is_some, slice_get, unwrap_or, refl, sym, ap}
use Rattle.std.proofs.Common.{◌∙◌, subst}
use Rattle.std.proofs.Common.{arith}
use Rattle.std.proofs.lemmas.List.{append-nil, length-map}
use Rattle.std.proofs.lemmas.Option.{slice_get-map}
use Rattle.std.specs.Ordering.{nat_cmp}
use Rattle.std.specs.FinMap.{FinMap, get}
use Rattle.std.specs.List.{AllByRecursion}
use Rattle.busdma_machine.specs.declared.report.Judged.{Judged}
use Rattle.busdma_machine.specs.declared.report.Judged.TheVariants.{Fine}
use Rattle.busdma_machine.specs.declared.report.ReportName.{ReportName}
use Rattle.busdma_machine.specs.declared.report.ReportName.TheVariants.{DeviceReadUnlent, StaleByte}
use Rattle.busdma_machine.specs.Judging.{judged, refused_or}
use Rattle.busdma_machine.specs.Machine.Wire.{put, stretch, with_bytes_of}
use Rattle.busdma_machine.specs.Runs.{run_of}
use Rattle.busdma_rules.specs.declared.position.Position.{Position}
use Rattle.busdma_rules.specs.Lending.Access.{dev_read_answer, dev_read_refusal, dev_write_answer, dev_write_refusal}
use Rattle.busdma_rules.specs.Lending.Loans.{addresses_of, load_bytes, loan_of}
use Rattle.loan_table.specs.Table.{AreIn, is_marked, set_all}
use Rattle.loan_table.proofs.Stretches.{part_of_run}
use Rattle.phys_memory.specs.Memory.{FrameMemory, memory_has_frame}
use Rattle.phys_memory.specs.Memory.{wire, memory_written}
use Rattle.ideal_lane.specs.Accesses.{values}
use Rattle.ideal_lane.specs.IdealMemory.{is_known}
use Rattle.ideal_lane.specs.Loads.{is_coherent}
use Rattle.ideal_lane.specs.Outcomes.{is_loaded}
use Rattle.ideal_lane.specs.State.{LaneMap, LaneState}
use Rattle.ideal_lane.specs.Syncs.{bounced_in}
use Rattle.ideal_wire.specs.Laid.{OfMemory, is_loadable}
use Rattle.ideal_wire.specs.Traces.{stage_at, stage_in, traces_of}
use Rattle.ideal_wire.specs.WireStep.{load_buses}
use Rattle.ideal_wire.proofs.Faithful.BytesPut.{map_own, same_range}
use Rattle.ideal_wire.proofs.Faithful.FaithfulAccess.{dev_read_of}
use Rattle.ideal_wire.proofs.Faithful.PlacedLoads.{own}
use Rattle.ideal_wire.proofs.Laid.Positions.{of_range}
use Rattle.ideal_wire.proofs.Faithful.Wiring.{faithful}
use Rattle.lane_state.specs.declared.holdings.Holdings.{Holdings}
use Rattle.lane_state.specs.declared.kept.KeptMap.{KeptMap}
use Rattle.lane_state.specs.declared.kept.KeptMemory.{KeptMemory}
use Rattle.lane_state.specs.Changes.{with_written}
use Rattle.lane_state.specs.Covered.{has_load}
use Rattle.lane_state.specs.Held.{devices_of, held}
use Rattle.lane_state.specs.Ideal.{ideal_of}
use Rattle.lane_state.specs.Kept.{map_of, memory_of, kept_stage}
use Rattle.lane_state.specs.Wire.{IsWired, held_pages, wire_of}
use Rattle.lane_state.proofs.Devices.{Loading, loading, own-frame}
use Rattle.lane_state.proofs.Keeping.{told-some}
use Rattle.lane_state.proofs.MapValues.{get-map_values, image-some}
use Rattle.lane_state.proofs.Places.{put-back}
use Rattle.lane_state.proofs.Reading.{known-held}
use Rattle.lane_state.proofs.WireBytes.{written_run}
use Rattle.lane_rings.specs.Ringing.{IsReadable}
use Rattle.lane_access.proofs.OwnWrites.{own-written}
use Rattle.lane_state.proofs.OwnBytes.{own-inside, own-put, own-reads}
use Rattle.lane_access.proofs.Unbounced.{direct-buses, direct-faithful}

-- ---- bytes that are Known

one-known : (b k : Bool) (x y : ReportName) (at : ℕ) (rest : Judged) →
    refused_or (cond b (cond k None (Some x)) (Some y)) at rest ≡ Fine → (k ≡ true) × (rest ≡ Fine)
one-known true true x y at rest h = (refl, h)
one-known true false x y at rest h = absurd (cc)
one-known false k x y at rest h = absurd (cc)

-- a device that may read bytes finds each of them Known
all-known : (known : ℕ → Bool) (c : Bool) (i : ℕ) (ps : List Position) → judged (dev_read_refusal known c) i ps ≡ Fine →
    AllByRecursion (λ a. known a ≡ true) (addresses_of ps)
all-known known c i [] h = tt
all-known known c i (p ∷ ps) h =
    let first = one-known (c || p.to_read) (known p.pa) StaleByte DeviceReadUnlent i
    (judged (dev_read_refusal known c) (i + 1) ps) h in
    (first.0, all-known known c (i + 1) ps first.1)

-- of sixteen bytes that are Known, the last two are
last-known : (known : ℕ → Bool) (a : ℕ) → AllByRecursion (λ b. known b ≡ true) (run_of a 16) →
    AllByRecursion (λ b. known b ≡ true) (run_of (a + 14) 2)
last-known known a all =
    let at : a + 1 + 1 + 1 + 1 + 1 + 1 + 1 + 1 + 1 + 1 + 1 + 1 + 1 + 1 ≡ a + 14 = omega arith in
    subst (λ b. AllByRecursion (λ c. known c ≡ true) (run_of b 2)) at all.1.1.1.1.1.1.1.1.1.1.1.1.1.1

-- marking bytes that are Known changes no mark
set-known : (bytes : FinMap nat_cmp Bool) (pas : List ℕ) → AllByRecursion (λ a. is_marked bytes a ≡ true) pas →
    set_all bytes pas true ≡ bytes
set-known bytes [] known = refl
set-known bytes (a ∷ pas) known =
    ap (λ b. set_all b pas true) (put-back bytes a true (marked (get bytes a) known.0)) ∙ set-known bytes pas known.1
  where
    marked : (o : Option Bool) → unwrap_or o false ≡ true → o ≡ Some true
    marked None h = absurd (cc)
    marked (Some true) h = refl
    marked (Some false) h = absurd (cc)

-- a device may write any bytes of a coherent map's load
coherent-fine : (c : Bool) → c ≡ true → (i : ℕ) (ps : List Position) → judged (dev_write_refusal c) i ps ≡ Fine
coherent-fine true on i [] = refl
coherent-fine true on i (p ∷ ps) = coherent-fine true on (i + 1) ps
coherent-fine false on i ps = absurd (cc)

-- the first byte of a memory lies low
pub low : (h : Holdings) → IsWired h → (m : ℕ) (x : KeptMemory) → get h.memories.map m ≡ Some x → x.first.0 ≤ 2 ^ 42
low h wired m x memory =
    let inside = wired.machine.mems m (memory_of x) (image-some memory_of h.memories.map m x memory) in
    let most = wired.machine.numbered in
    omega (arith, inside, most)

-- ---- the load of a memory's map

module _ (h : Holdings) (wired : IsWired h) (m : ℕ) (x : KeptMemory) (memory : get h.memories.map m ≡ Some x)
    (o : LaneMap) (there : get (ideal_of h).maps m ≡ Some o) (on : is_loaded o.stage ≡ true) where
  abbrev l : LaneState
  l = ideal_of h

  abbrev ps : List Position
  ps = (loan_of l.loans m).positions

  abbrev kept : (k : KeptMap) × (get h.maps.map m ≡ Some k) × (map_of k ≡ o)
  kept = told-some map_of (get h.maps.map m) o (sym (get-map_values map_of h.maps.map m) ∙ there)

  kept-on : has_load (Some kept.0) ≡ true
  kept-on = ap (λ (q : LaneMap). is_loaded q.stage) kept.2 ∙ on

  abbrev load : Loading h wired m kept.0 kept.1 kept-on
  load = loading h wired m kept.0 kept.1 kept-on

  is-there : get l.mems m ≡ Some (memory_of x)
  is-there = image-some memory_of h.memories.map m x memory

  none : bounced_in (stage_at l m) ≡ []
  none =
      ap (λ q. bounced_in (stage_in q)) (image-some map_of h.maps.map m kept.0 kept.1)
      ∙ ap (λ s. bounced_in (kept_stage s)) load.stage ∙ load.load.direct (ap is_some is-there)

  run : addresses_of ps ≡ run_of x.first.0 (length ps)
  run = load.load.first (memory_of x) is-there ∙ ap (run_of x.first.0) (length-map ps (λ (p : Position). p.pa))

  module _ (at n : ℕ) (range : at + n ≤ length ps) where
    -- a range of its bytes
    pub part : load_bytes l.loans m at n ≡ run_of (x.first.0 + at) n
    part =
        same_range (λ (p : Position). p.pa) (λ (a : ℕ). a) at n ps (run_of x.first.0 (length ps))
        (run ∙ sym (map_own (run_of x.first.0 (length ps))))
        ∙ map_own (stretch at n (run_of x.first.0 (length ps)))
        ∙ ap (stretch at n) (sym (append-nil (run_of x.first.0 (length ps))))
        ∙ part_of_run x.first.0 (length ps) at n [] range

    own-byte : (i a : ℕ) → slice_get (load_bytes l.loans m at n) i ≡ Some a → is_some (l.memory a) ≡ true
    own-byte i a found =
        let p = told-some (λ (p : Position). p.pa) (slice_get (stretch at n ps) i) a
        (sym (slice_get-map (λ (p : Position). p.pa) (stretch at n ps) i) ∙ found) in
        let loaded : is_loadable (get l.mems m) l p.0.pa ≡ true =
        load.load.bytes (at + i) p.0 (of_range ps at n i p.0 p.1).whole in
        let inside : is_loadable (Some (memory_of x)) l p.0.pa ≡ true =
        ap (λ y. is_loadable y l p.0.pa) (sym is-there) ∙ loaded in
        ap (λ b. is_some (l.memory b)) (sym p.2) ∙ wired.laid.owned p.0.pa (OfMemory m (memory_of x) is-there inside)

    pub inside : AreIn h.loans.bytes (load_bytes l.loans m at n)
    inside = own-inside h (load_bytes l.loans m at n) own-byte

    -- the first of the bytes is in a frame of the driver's
    pub framed : 1 ≤ n → memory_has_frame h.memory.memory ((x.first.0 + at) / 4096) ≡ true
    framed some =
        own-frame h wired (x.first.0 + at)
        ∙ own-byte 0 (x.first.0 + at) (ap (λ bytes. slice_get bytes 0) part ∙ begins n some)
      where
        begins : (k : ℕ) → 1 ≤ k → slice_get (run_of (x.first.0 + at) k) 0 ≡ Some (x.first.0 + at)
        begins zero some = absurd (omega arith)
        begins (suc k) some = refl

    -- what the device reads of the bytes is what the driver's frames have
    pub reads : dev_read_answer (is_known l.memory) (loan_of l.loans m) at n ≡ Fine →
        values l (load_bytes l.loans m at n) ≡ map (wire h.memory.memory) (run_of (x.first.0 + at) n)
    reads fine =
        dev_read_of (own l wired.laid wired.apart) l (traces_of l) (wire_of h)
        (faithful l (wire_of h) wired.apart wired.laid wired.faithful) m at n fine
        ∙ ap (map (wire_of h)) (direct-buses h wired m kept.0 kept.1 kept-on none at n)
        ∙ sym (own-reads h wired (load_bytes l.loans m at n) inside)
        ∙ ap (map (wire h.memory.memory)) part

  -- if the device may read sixteen bytes, the last two of them are Known
  pub last-two : (at : ℕ) → at + 16 ≤ length ps →
      dev_read_answer (is_known l.memory) (loan_of l.loans m) at 16 ≡ Fine →
      AllByRecursion (λ a. is_known l.memory a ≡ true) (run_of (x.first.0 + (at + 14)) 2)
  last-two at range fine =
      let place : x.first.0 + at + 14 ≡ x.first.0 + (at + 14) = omega arith in
      subst (λ a. AllByRecursion (λ b. is_known l.memory b ≡ true) (run_of a 2)) place
      (last-known (is_known l.memory) (x.first.0 + at)
      (subst (AllByRecursion (λ a. is_known l.memory a ≡ true)) (part at 16 range)
      (all-known (is_known l.memory) (loan_of l.loans m).coherent 0 (stretch at 16 ps) fine)))

  -- the load is coherent if the memory is
  pub coherent-load : (memory_of x).coherent ≡ true → (loan_of l.loans m).coherent ≡ true
  coherent-load is = load.load.coherent ∙ ap is_coherent is-there ∙ is

  -- the memory's first byte begins a frame
  pub whole : x.first.0 % 4096 ≡ 0
  whole = (wired.laid.runs m (memory_of x) is-there).whole

  -- ---- two bytes that are Known are written, in a coherent memory
  module _ (at : ℕ) (range : at + 2 ≤ length ps)
      (known : AllByRecursion (λ a. is_known l.memory a ≡ true) (run_of (x.first.0 + at) 2))
      (coherent : (loan_of l.loans m).coherent ≡ true) (n : FrameMemory)
      (now : wire n ≡ memory_written (x.first.0 + at) (0 ∷ 1 ∷ []) (wire h.memory.memory)) where
    abbrev two : List ℕ
    two = load_bytes l.loans m at 2

    abbrev told : List ℕ
    told = 0 ∷ 1 ∷ []

    written-two : wire n ≡ put two told (wire h.memory.memory)
    written-two =
        now ∙ written_run (x.first.0 + at) told (wire h.memory.memory)
        ∙ ap (λ ks. put ks told (wire h.memory.memory)) (sym (part at 2 range))

    fine : Fine ≡ dev_write_answer (loan_of h.loans.loans m) at 2
    fine = sym (coherent-fine (loan_of l.loans m).coherent coherent 0 (stretch at 2 ps))

    pub two-wire : with_bytes_of (held_pages h.maps.map) (wire n) ≡ put (load_buses l m at 2) told (wire_of h)
    two-wire =
        own-put h wired two told (inside at 2 range) n written-two
        ∙ ap (λ ks. put ks told (wire_of h)) (sym (direct-buses h wired m kept.0 kept.1 kept-on none at 2))

    marked : h.loans.bytes ≡ set_all h.loans.bytes two true
    marked = sym (set-known h.loans.bytes two
        (subst (AllByRecursion (λ a. is_marked h.loans.bytes a ≡ true)) (sym (part at 2 range))
        (subst (λ f. AllByRecursion (λ a. f a ≡ true) (run_of (x.first.0 + at) 2))
        (known-held h.loans.bytes h.loans.loans (devices_of h.maps.map) h.memory.memory) known)))

    pub two-done : record l { memory = held h.loans.bytes h.loans.loans (devices_of h.maps.map) n }
        ≡ with_written two told l
    two-done =
        own-written h wired two told (inside at 2 range) n written-two
        (direct-faithful h wired m kept.0 kept.1 kept-on none at told range fine)
        (ap length (part at 2 range)) h.loans.bytes h.loans.loans marked refl

-- the last two of sixteen bytes that the device may read are in a frame of the driver's
pub told-there : (h : Holdings) → IsWired h → (m : ℕ) (x : KeptMemory) → get h.memories.map m ≡ Some x → (at a : ℕ) →
    IsReadable (ideal_of h) m at 16 → a ≡ x.first.0 + at → memory_has_frame h.memory.memory ((a + 14) / 4096) ≡ true
told-there h wired m x memory at a r is =
    let place : x.first.0 + (at + 14) ≡ a + 14 = omega (arith, is) in
    subst (λ b. memory_has_frame h.memory.memory (b / 4096) ≡ true) place
    (framed h wired m x memory r.map r.there r.loaded (at + 14) 2 (omega (arith, r.range)) (omega arith))
