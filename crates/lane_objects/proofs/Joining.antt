-- What a driver holds after the frames of a new memory came.
use Rattle.std.proofs.Common.{◌≡◌, ◌≢◌, ◌⊎◌, inl, inr, ℕ, ◌+◌, ◌-◌, ◌*◌, ◌/◌, ◌^◌, ◌≤◌, ◌==◌, ◌||◌, Bool}
use Rattle.std.proofs.Common.{true, false, cond, Option, Some, None, is_some, refl, sym, ap, ◌∙◌}
use Rattle.std.proofs.Common.{arith}
use Rattle.std.specs.Prelude.{if◌then◌else◌}
use Rattle.std.specs.List.{list_any}
use Rattle.std.specs.Ordering.{nat_cmp}
use Rattle.std.specs.FinMap.{FinMap, entries, get, insert}
use Rattle.std.proofs.lemmas.Bool.{false≢true}
use Rattle.std.proofs.lemmas.Bool.Decides.{eqb_tells}
use Rattle.busdma_machine.specs.Bounce.MemoryRuns.{in_run}
use Rattle.busdma_machine.specs.Machine.VirtualPages.{pages_end}
use Rattle.busdma_base.specs.Scenarios.PageRuns.{physical_in}
use Rattle.busdma_machine.specs.Runs.{run_of}
use Rattle.loan_table.specs.Table.{AreNew, set_all}
use Rattle.memory_pages.specs.Placed.{AreAtTheirFrames, Comes, IsWithout, is_byte, is_frame, is_page, row_of}
use Rattle.memory_pages.proofs.Coming.{no_row, still_placed}
use Rattle.memory_pages.proofs.Runs.{in_run_page}
use Rattle.phys_memory.specs.Memory.{FrameMemory, memory_has_frame}
use Rattle.phys_memory.specs.Memory.{memory_physical, wire}
use Rattle.ideal_lane.specs.IdealMemory.{Content, Known, Unknown, joined}
use Rattle.ideal_lane.specs.Places.{is_in_memory, physical_of}
use Rattle.ideal_lane.specs.State.{LaneState}
use Rattle.ideal_lane.proofs.Lookups.{get_put}
use Rattle.ideal_wire.specs.NewRuns.{IsNewRun}
use Rattle.ideal_wire.proofs.Loads.MemoryLoads.{no-page}
use Rattle.ideal_wire.proofs.Laid.Positions.{found_one}
use Rattle.lane_state.specs.declared.holdings.Holdings.{Holdings}
use Rattle.lane_state.specs.declared.kept.KeptMemory.{KeptMemory}
use Rattle.lane_state.specs.Covered.{AreStanding, HasFramesOf, IsCovered, Reaches, reached_in}
use Rattle.lane_state.specs.Held.{byte_among, content_of, devices_of, held}
use Rattle.lane_state.specs.Ideal.{ideal_of}
use Rattle.lane_state.specs.Kept.{memory_of}
use Rattle.lane_state.specs.Wire.{IsWired}
use Rattle.lane_state.proofs.Devices.{own-frame}
use Rattle.lane_state.proofs.Marks.{get-set_all}
use Rattle.lane_objects.proofs.KeptMemories.{any-put, some-or}
use Rattle.lane_state.proofs.OwnRuns.{among_run, new_run}
use Rattle.lane_state.proofs.Reading.{unlent-byte}
use Rattle.lane_objects.proofs.Steady.{byte-steady, foreign-unlent}

module _ (h : Holdings) (wired : IsWired h) (first n : ℕ) (new : IsNewRun (ideal_of h) first n) where
  abbrev l : LaneState
  l = ideal_of h

  -- none of the frames is there
  pub frames-new : IsWithout h.memory.memory first n
  frames-new f inside =
      let number : 4096 * f / 4096 ≡ f = omega arith in
      ap (memory_has_frame h.memory.memory) (sym number) ∙ own-frame h wired (4096 * f) ∙ new.fresh (4096 * f) inside

  -- none of the bytes of the frames is there
  pub marks-new : AreNew h.loans.bytes (run_of first (4096 * n))
  marks-new =
      new_run h.loans.bytes first (4096 * n) (λ a lo hi. none (get h.loans.bytes a)
      (h.covered a ∙ own-frame h wired a ∙ new.fresh a (Rattle.memory_pages.proofs.Runs.in_run_is first n a lo hi)))
    where
      none : (o : Option Bool) → is_some o ≡ false → o ≡ None
      none None e = refl
      none (Some b) e = absurd (cc)

  pub run-low : first + 4096 * n ≤ 2 ^ 42
  run-low = let low = wired.machine.numbered in let below = new.below in omega arith

  module _ (len : ℕ) (m : FrameMemory) (comes : Comes h.memory.memory m first n len) where
    -- ---- what holds of the driver's parts

    pub joined-framed : HasFramesOf h.pages.now m
    joined-framed f own =
        comes.frames f ∙ ap (λ b. is_frame first n f || b) (h.framed f own) ∙ any-true (is_frame first n f)
      where
        any-true : (b : Bool) → (b || true) ≡ true
        any-true true = refl
        any-true false = refl

    pub joined-placed : AreAtTheirFrames m
    joined-placed = still_placed h.memory.memory m first n len (λ some. new.whole) comes h.placed

    module _ (bytes : FinMap nat_cmp Bool) (zero : Bool)
        (marked : bytes ≡ set_all h.loans.bytes (run_of first (4096 * n)) zero) where
      marks : (a : ℕ) → get bytes a ≡ cond (in_run first n a) (Some zero) (get h.loans.bytes a)
      marks a =
          ap (λ b. get b a) marked ∙ get-set_all h.loans.bytes (run_of first (4096 * n)) zero a
          ∙ ap (λ b. cond b (Some zero) (get h.loans.bytes a)) (among_run first (4096 * n) a)

      pub joined-covered : IsCovered m bytes
      joined-covered a =
          ap is_some (marks a) ∙ some-or (in_run first n a) zero (get h.loans.bytes a)
          ∙ ap (λ b. in_run first n a || b) (h.covered a)
          ∙ ap (λ b. b || memory_has_frame h.memory.memory (a / 4096)) (sym (in_run_page first n a (λ some. new.whole)))
          ∙ sym (comes.frames (a / 4096))

      module _ (others : (a : ℕ) → in_run first n a ≡ false → wire m a ≡ wire h.memory.memory a)
          (zeros : zero ≡ true → (a : ℕ) → in_run first n a ≡ true → wire m a ≡ 0) where
        abbrev content : Content
        content = if zero then Known 0 else Unknown

        fresh-content : (z : Bool) (v : ℕ) → (z ≡ true → v ≡ 0) →
            content_of (Some z) v ≡ Some (if z then Known 0 else Unknown)
        fresh-content true v e = ap (λ x. Some (Known x)) (e refl)
        fresh-content false v e = refl

        -- the ideal memory has the bytes of the memory
        pub held-joined : held bytes h.loans.loans (devices_of h.maps.map) m
            ≡ joined (in_run first n) content l.memory
        held-joined = λ i a. (at a (in_run first n a) refl) i
          where
            at : (a : ℕ) (b : Bool) → in_run first n a ≡ b →
                held bytes h.loans.loans (devices_of h.maps.map) m a ≡ joined (in_run first n) content l.memory a
            at a true e =
                ap (λ o. content_of o (byte_among (devices_of h.maps.map) m (entries h.loans.loans) a))
                (marks a ∙ ap (λ b. cond b (Some zero) (get h.loans.bytes a)) e)
                ∙ fresh-content zero (byte_among (devices_of h.maps.map) m (entries h.loans.loans) a)
                (λ z. unlent-byte (devices_of h.maps.map) m (entries h.loans.loans) a
                (foreign-unlent h wired a (new.fresh a e)) ∙ zeros z a e)
                ∙ sym (ap (λ b. if b then Some content else l.memory a) e)
            at a false e =
                ap (λ o. content_of o (byte_among (devices_of h.maps.map) m (entries h.loans.loans) a))
                (marks a ∙ ap (λ b. cond b (Some zero) (get h.loans.bytes a)) e)
                ∙ ap (content_of (get h.loans.bytes a)) (byte-steady h wired m a (others a e))
                ∙ sym (ap (λ b. if b then Some content else l.memory a) e)

        -- the bytes of its frames that are there before and after stay
        pub joined-own : (a : ℕ) → is_some (l.memory a) ≡ true → wire m a ≡ wire h.memory.memory a
        joined-own a before = by (in_run first n a) refl
          where
            by : (b : Bool) → in_run first n a ≡ b → wire m a ≡ wire h.memory.memory a
            by true e = absurd (false≢true (sym (new.fresh a e) ∙ before))
            by false e = others a e

        -- bytes that come and are Known have their values in the frames
        pub joined-known : (a v : ℕ) → l.memory a ≡ None → joined (in_run first n) content l.memory a ≡ Some (Known v) →
            wire m a ≡ v
        joined-known a v none is = by (in_run first n a) refl is
          where
            told : (z : Bool) → Some (if z then Known 0 else Unknown) ≡ Some (Known v) → (z ≡ true) × (0 ≡ v)
            told true e = (refl, (let same : 0 ≡ v = cc in same))
            told false e = absurd (cc)

            gone : None ≡ Some (Known v) → ⊥
            gone e = absurd (cc)

            by : (b : Bool) → in_run first n a ≡ b →
                (if b then Some content else l.memory a) ≡ Some (Known v) → wire m a ≡ v
            by true e g = let t = told zero g in zeros t.0 a e ∙ t.1
            by false e g = absurd (gone (sym none ∙ g))

    -- ---- the frames of the memory

    module _ (place : ℕ) (kept : KeptMemory) (vacant : get h.memories.map place ≡ None) (at : kept.first.0 ≡ first)
        (count : kept.count ≡ n) (long : kept.memory.len ≡ len) where
      pub joined-standing : AreStanding (insert h.memories.map place kept) m
      joined-standing k x there v inside = by (eqb_tells k place)
        where
          by : ((k == place) ≡ true) × (k ≡ place) ⊎ ((k == place) ≡ false) × (k ≢ place) →
              get m.table v ≡ Some (row_of x.first.0 x.memory.len v)
          by (inl t) =
              let same : kept ≡ x = found_one (Some kept) kept x refl
              (sym (ap (λ b. cond b (Some kept) (get h.memories.map k)) t.0) ∙ sym (get_put h.memories.map place kept k)
              ∙ there) in
              let here : is_page first n v ≡ true =
              (λ i. is_page (sym at i) (sym count i) v) ∙ ap (λ (y : KeptMemory). is_page y.first.0 y.count v) same
              ∙ inside in
              comes.rows v ∙ ap (λ b. cond b (Some (row_of first len v)) (get h.memory.memory.table v)) here
              ∙ (λ i. Some (row_of (sym at i) (sym long i) v))
              ∙ ap (λ (y : KeptMemory). Some (row_of y.first.0 y.memory.len v)) same
          by (inr t) =
              let old : get h.memories.map k ≡ Some x =
              sym (ap (λ b. cond b (Some kept) (get h.memories.map k)) t.0) ∙ sym (get_put h.memories.map place kept k)
              ∙ there in
              let row : get h.memory.memory.table v ≡ Some (row_of x.first.0 x.memory.len v) =
              h.standing k x old v inside in
              comes.rows v ∙ ap (λ b. cond b (Some (row_of first len v)) (get h.memory.memory.table v))
              (out row (is_page first n v) refl) ∙ row
            where
              out : get h.memory.memory.table v ≡ Some (row_of x.first.0 x.memory.len v) → (b : Bool) →
                  is_page first n v ≡ b → b ≡ false
              out row true e =
                  let gone : None ≡ Some (row_of x.first.0 x.memory.len v) =
                  sym (no_row h.memory.memory first n v (λ some. new.whole) h.placed frames-new e) ∙ row in
                  absurd (cc)
              out row false e = refl

      module _ (reached : (va : ℕ) → memory_physical m va
          ≡ (if is_byte first len va then Some (va - pages_end) else memory_physical h.memory.memory va)) where
        pub joined-reaches : Reaches h.pages.now (insert h.memories.map place kept) m
        joined-reaches va = reached va ∙ by (is_byte first len va) refl
          where
            same-byte : is_in_memory va (memory_of kept) ≡ is_byte first len va
            same-byte = λ i. is_byte (at i) (long i) va

            now : list_any (λ e. is_in_memory va (memory_of e.1)) (entries (insert h.memories.map place kept))
                ≡ (is_byte first len va
                || list_any (λ e. is_in_memory va (memory_of e.1)) (entries h.memories.map))
            now =
                any-put (λ e. is_in_memory va (memory_of e.1)) h.memories.map place kept vacant
                ∙ ap (λ b. b || list_any (λ e. is_in_memory va (memory_of e.1)) (entries h.memories.map)) same-byte

            by : (b : Bool) → is_byte first len va ≡ b →
                (if b then Some (va - pages_end) else memory_physical h.memory.memory va)
                ≡ reached_in (physical_in h.pages.now va) (insert h.memories.map place kept) va
            by true e =
                sym (ap (λ o. reached_in o (insert h.memories.map place kept) va)
                (no-page h.maxmem h.pages.now va wired.machine.pages
                (Rattle.lane_objects.proofs.KeptMemories.byte-high first len va e))
                ∙ ap (λ b. if b then Some (physical_of va) else None)
                (now ∙ ap (λ b. b || list_any (λ e. is_in_memory va (memory_of e.1)) (entries h.memories.map)) e))
            by false e = h.reaches va ∙ alike (physical_in h.pages.now va)
              where
                alike : (o : Option ℕ) →
                    reached_in o h.memories.map va ≡ reached_in o (insert h.memories.map place kept) va
                alike (Some pa) = refl
                alike None =
                    sym (ap (λ b. if b then Some (physical_of va) else None)
                    (now ∙ ap (λ b. b || list_any (λ e. is_in_memory va (memory_of e.1)) (entries h.memories.map)) e))
