-- What a driver holds after the frames of a memory went.
use Rattle.std.proofs.Common.{◌≡◌, ◌≢◌, ◌⊎◌, inl, inr, ℕ, zero, suc, ◌+◌, ◌-◌, ◌*◌, ◌/◌, ◌%◌, ◌^◌, ◌<◌, ◌≤◌, ◌==◌, ◌||◌}
use Rattle.std.proofs.Common.{Bool, true, false, cond, List, [], ◌∷◌, get_or, Option, Some, None, is_some}
use Rattle.std.proofs.Common.{slice_get, refl, sym, ap, ◌∙◌, subst, arith, unwrap_or}
use Rattle.std.specs.Prelude.{if◌then◌else◌}
use Rattle.std.specs.List.{All, AllByRecursion, list_any}
use Rattle.std.specs.Option.{option_map}
use Rattle.std.specs.Ordering.{nat_cmp}
use Rattle.std.specs.FinMap.{FinMap, contains_key, entries, get, remove}
use Rattle.std.proofs.lemmas.Bool.{eq-eqb, false≢true}
use Rattle.std.proofs.lemmas.Option.{slice_get-get_or}
use Rattle.busdma_machine.specs.Bounce.MemoryRuns.{in_run}
use Rattle.busdma_machine.specs.Machine.VirtualPages.{pages_end}
use Rattle.busdma_base.specs.Scenarios.PageRuns.{is_own, physical_in}
use Rattle.busdma_base.specs.Scenarios.PageRuns as pages
use Rattle.busdma_machine.specs.Runs.{run_of}
use Rattle.busdma_rules.specs.Memory.Memories.{virtual_of}
use Rattle.busdma_rules.specs.declared.position.Position.{Position}
use Rattle.busdma_rules.specs.Lending.Loans.{Loan, loan_of, no_loan}
use Rattle.loan_table.specs.Table.{AreFree, AreIn, is_among, without}
use Rattle.memory_pages.specs.Placed.{AreAtTheirFrames, Goes, HasFrames, is_page, row_of}
use Rattle.memory_pages.proofs.Going.{left_placed}
use Rattle.memory_pages.proofs.Runs.{in_run_hi, in_run_is, in_run_lo, in_run_page, same_tests}
use Rattle.phys_memory.specs.declared.reach.Reach.{Reach}
use Rattle.phys_memory.specs.Memory.{FrameMemory, memory_has_frame}
use Rattle.phys_memory.specs.Memory.{memory_physical, wire}
use Rattle.ideal_lane.specs.IdealMemory.{Known, parted}
use Rattle.ideal_lane.specs.Places.{is_in_memory, physical_of}
use Rattle.ideal_lane.specs.State.{LaneMemory, LaneState}
use Rattle.ideal_lane.proofs.Lookups.{get_cut}
use Rattle.ideal_wire.specs.Centre.{IsAt}
use Rattle.ideal_wire.specs.Laid.{HasWholeFrames, LiesIn, OfMemory, is_loadable}
use Rattle.ideal_wire.specs.Traces.{stage_in}
use Rattle.ideal_wire.proofs.Faithful.Lent.{any_entry}
use Rattle.ideal_wire.proofs.Loads.MemoryLoads.{no-page}
use Rattle.ideal_wire.proofs.Faithful.PlacedLoads.{load-of}
use Rattle.ideal_wire.proofs.Faithful.SyncedPositions.{decided}
use Rattle.lane_state.specs.declared.holdings.Holdings.{Holdings}
use Rattle.lane_state.specs.declared.kept.KeptMemory.{KeptMemory}
use Rattle.lane_state.specs.Awaiting.{awaits_map}
use Rattle.lane_state.specs.Covered.{AreStanding, HasFramesOf, IsCovered, Reaches, is_idle_map, reached_in}
use Rattle.lane_state.specs.Held.{byte_among, content_of, devices_of, held}
use Rattle.lane_state.specs.Ideal.{ideal_of}
use Rattle.lane_state.specs.Kept.{map_of, memory_of}
use Rattle.lane_state.specs.Wire.{IsWired}
use Rattle.lane_state.proofs.Devices.{own-frame}
use Rattle.lane_state.proofs.Keeping.{idle-stands}
use Rattle.lane_state.proofs.MapValues.{image-some}
use Rattle.lane_objects.proofs.KeptMemories.{any-cut, any-left, any-there, cut-here, cut-off}
use Rattle.lane_state.proofs.OwnRuns.{among_run, own_frame}
use Rattle.lane_objects.proofs.Steady.{byte-steady}

-- ---- marks that go

get-without : (m : FinMap nat_cmp Bool) (keys : List ℕ) (q : ℕ) →
    get (without m keys) q ≡ cond (list_any (λ k. q == k) keys) None (get m q)
get-without m [] q = refl
get-without m (k ∷ keys) q =
    get-without (remove m k) keys q ∙ ap (cond (list_any (λ a. q == a) keys) None) (get_cut m k q)
    ∙ either (q == k) (list_any (λ a. q == a) keys) (get m q)
  where
    either : {X : Type 0} (a b : Bool) (y : Option X) → cond b None (cond a None y) ≡ cond (a || b) None y
    either true true y = refl
    either true false y = refl
    either false true y = refl
    either false false y = refl

in-table : (m : FinMap nat_cmp Bool) (p n : ℕ) →
    ((a : ℕ) → p ≤ a → a < p + n → is_some (get m a) ≡ true) → AreIn m (run_of p n)
in-table m p zero h = tt
in-table m p (suc n) h =
    (h p (omega arith) (omega arith), in-table m (p + 1) n (λ a lo hi. h a (omega arith) (omega arith)))

among-any : (a : ℕ) (bs : List ℕ) → is_among a bs ≡ list_any (λ k. a == k) bs
among-any a [] = refl
among-any a (b ∷ bs) = ap (λ t. (a == b) || t) (among-any a bs)

module _ (h : Holdings) (wired : IsWired h) (mem : ℕ) (x : KeptMemory) (there : get h.memories.map mem ≡ Some x) where
  abbrev l : LaneState
  l = ideal_of h

  abbrev first : ℕ
  first = x.first.0

  abbrev n : ℕ
  n = x.count

  image : get l.mems mem ≡ Some (memory_of x)
  image = image-some memory_of h.memories.map mem x there

  run : HasWholeFrames (memory_of x)
  run = wired.laid.runs mem (memory_of x) image

  pub part-whole : first % 4096 ≡ 0
  part-whole = run.whole

  pub part-low : first + 4096 * n ≤ 2 ^ 42
  part-low =
      let below = wired.machine.mems mem (memory_of x) image in
      let low = wired.machine.numbered in
      omega (arith, below, low)

  pub part-frames : HasFrames h.memory.memory first n
  part-frames v inside = ap (option_map (λ (r : Reach). r.frame)) (h.standing mem x there v inside)

  own-run : (a : ℕ) → in_run first n a ≡ true → is_some (l.memory a) ≡ true
  own-run a inside = wired.laid.owned a (OfMemory mem (memory_of x) image inside)

  pub part-marks : AreIn h.loans.bytes (run_of first (4096 * n))
  part-marks =
      in-table h.loans.bytes first (4096 * n) (λ a lo hi.
      h.covered a ∙ own-frame h wired a ∙ own-run a (in_run_is first n a lo hi))

  -- a byte of pages is none of the memory's, nor is one of another memory
  page-out : (a : ℕ) → is_own l.pages a ≡ true → in_run first n a ≡ false
  page-out a own = by (in_run first n a) refl
    where
      by : (b : Bool) → in_run first n a ≡ b → b ≡ false
      by true e = sym (sym (wired.apart.pages mem a (memory_of x) image e) ∙ own)
      by false e = refl

  other-out : (k a : ℕ) (y : KeptMemory) → k ≢ mem → get h.memories.map k ≡ Some y →
      in_run y.first.0 y.count a ≡ true → in_run first n a ≡ false
  other-out k a y ne had inside = by (in_run first n a) refl
    where
      by : (b : Bool) → in_run first n a ≡ b → b ≡ false
      by true e = absurd (ne (wired.apart.memories k mem a (memory_of y) (memory_of x)
          (image-some memory_of h.memories.map k y had) image inside e))
      by false e = refl

  -- ---- loans

  module _ (idle : is_idle_map (get h.maps.map mem) ≡ true) where
    no-loan : loan_of l.loans mem ≡ no_loan
    no-loan = by (get h.maps.map mem) refl idle
      where
        by : (o : Option _) → get h.maps.map mem ≡ o → is_idle_map o ≡ true → loan_of l.loans mem ≡ no_loan
        by None e i = absurd (cc)
        by (Some o) e i =
            subst (LiesIn l mem)
            (ap stage_in (image-some map_of h.maps.map mem o e) ∙ idle-stands (map_of o).stage i) (wired.laid.each mem)

    position-out : (k i : ℕ) (p : Position) → IsAt l.loans k i p → in_run first n p.pa ≡ false
    position-out k i p at = by (get l.mems k) refl (decided k mem)
      where
        byte : is_loadable (get l.mems k) l p.pa ≡ true
        byte = let s = load-of l wired.laid k i p at in s.load.bytes i p at

        other : (y : LaneMemory) → get l.mems k ≡ Some y → k ≢ mem → in_run y.first y.count p.pa ≡ true → (b : Bool) →
            in_run first n p.pa ≡ b → b ≡ false
        other y e ne inside true t =
            absurd (ne (wired.apart.memories k mem p.pa y (memory_of x) e image inside t))
        other y e ne inside false t = refl

        by : (o : Option LaneMemory) → get l.mems k ≡ o → (k ≡ mem) ⊎ (k ≢ mem) → in_run first n p.pa ≡ false
        by None e d = page-out p.pa (ap (λ o. is_loadable o l p.pa) (sym e) ∙ byte)
        by (Some y) e (inl same) =
            let gone : None ≡ Some p =
            ap (λ (z : Loan). slice_get z.positions i) (sym no-loan)
            ∙ ap (λ q. slice_get (loan_of l.loans q).positions i)
            (sym same) ∙ at in
            absurd (cc)
        by (Some y) e (inr ne) =
            other y e ne (ap (λ o. is_loadable o l p.pa) (sym e) ∙ byte) (in_run first n p.pa) refl

    -- no loan has a byte of the memory
    pub part-free : AreFree h.loans.loans (run_of first (4096 * n))
    part-free k i d inside =
        let p : Position = get_or (loan_of h.loans.loans k).positions i d in
        among-any p.pa (run_of first (4096 * n)) ∙ among_run first (4096 * n) p.pa
        ∙ position-out k i p (slice_get-get_or (loan_of h.loans.loans k).positions i d inside)

  -- no loan that is prepared for another map has one either
  pub part-unprepared : AreFree (remove h.loans.prepared mem) (run_of first (4096 * n))
  part-unprepared k = subst Free (sym (get_cut h.loans.prepared mem k)) (by (k == mem) refl)
    where
      bytes : List ℕ
      bytes = run_of first (4096 * n)

      Free : Option Loan → Type 0
      Free o = All (λ p. is_among p.pa bytes ≡ false) (unwrap_or o no_loan).positions

      out : (a : ℕ) → k ≢ mem → (o : Option KeptMemory) → get h.memories.map k ≡ o → awaits_map h.pages.now o a ≡ true →
          in_run first n a ≡ false
      out a ne None e of = page-out a of
      out a ne (Some y) e of = either (is_own h.pages.now a) refl of
        where
          either : (b : Bool) → is_own h.pages.now a ≡ b → (b || in_run y.first.0 y.count a) ≡ true →
              in_run first n a ≡ false
          either true own of = page-out a own
          either false own of = other-out k a y ne e of

      by : (b : Bool) → (k == mem) ≡ b → Free (cond b None (get h.loans.prepared k))
      by true e = λ i d inside. absurd (omega arith)
      by false e = λ i d inside.
          let p : Position = get_or (loan_of h.loans.prepared k).positions i d in
          among-any p.pa bytes ∙ among_run first (4096 * n) p.pa
          ∙ out p.pa (λ same. false≢true (sym e ∙ eq-eqb k mem same)) (get h.memories.map k) refl (h.ready k i d inside)

  -- ---- what is left

  module _ (m : FrameMemory) (goes : Goes h.memory.memory m first n) where
    pub parted-framed : HasFramesOf h.pages.now m
    parted-framed f own =
        ap is_some (goes.frames f ∙ ap (λ b. cond b None (get h.memory.memory.frames f))
        (page-out (4096 * f) (own_frame h.pages.now (4096 * f) ∙ ap (pages.has_frame h.pages.now) number ∙ own)))
        ∙ h.framed f own
      where
        number : 4096 * f / 4096 ≡ f
        number = omega arith

    pub parted-placed : AreAtTheirFrames m
    parted-placed = left_placed h.memory.memory m first n part-whole goes h.placed

    pub parted-standing : AreStanding (remove h.memories.map mem) m
    parted-standing k y had v inside = by (decided k mem)
      where
        by : (k ≡ mem) ⊎ (k ≢ mem) → get m.table v ≡ Some (row_of y.first.0 y.memory.len v)
        by (inl e) =
            let gone : None ≡ Some y = sym (cut-here h.memories.map mem) ∙ ap (get (remove h.memories.map mem)) (sym e)
            ∙ had in
            absurd (cc)
        by (inr ne) =
            let old : get h.memories.map k ≡ Some y = sym (cut-off h.memories.map mem k ne) ∙ had in
            let lo = in_run_lo (virtual_of y.first.0) y.count (4096 * v) inside in
            let hi = in_run_hi (virtual_of y.first.0) y.count (4096 * v) inside in
            let off : in_run first n (4096 * v - pages_end) ≡ false =
            other-out k (4096 * v - pages_end) y ne old
            (in_run_is y.first.0 y.count (4096 * v - pages_end) (omega arith) (omega arith)) in
            goes.rows v ∙ ap (λ b. cond b None (get h.memory.memory.table v)) (out lo off (is_page first n v) refl)
            ∙ h.standing k y old v inside
          where
            out : virtual_of y.first.0 ≤ 4096 * v → in_run first n (4096 * v - pages_end) ≡ false → (b : Bool) →
                is_page first n v ≡ b → b ≡ false
            out lo off true e =
                let low = in_run_lo (virtual_of first) n (4096 * v) e in
                let high = in_run_hi (virtual_of first) n (4096 * v) e in
                absurd (false≢true (sym off ∙ in_run_is first n (4096 * v - pages_end) (omega arith) (omega arith)))
            out lo off false e = refl

    module _ (reached : (va : ℕ) → memory_physical m va
        ≡ (if in_run (virtual_of first) n va then None else memory_physical h.memory.memory va)) where
      -- a byte of another memory is none of this one's
      other-byte : (va k : ℕ) (y : KeptMemory) → k ≢ mem → get h.memories.map k ≡ Some y →
          is_in_memory va (memory_of y) ≡ true → in_run (virtual_of first) n va ≡ false
      other-byte va k y ne had inside = by (in_run (virtual_of first) n va) refl
        where
          by : (b : Bool) → in_run (virtual_of first) n va ≡ b → b ≡ false
          by true e =
              let ran = wired.laid.runs k (memory_of y) (image-some memory_of h.memories.map k y had) in
              let lo = Rattle.lane_objects.proofs.KeptMemories.byte-lo y.first.0 y.memory.len va inside in
              let hi = Rattle.lane_objects.proofs.KeptMemories.byte-hi y.first.0 y.memory.len va inside in
              let low = in_run_lo (virtual_of first) n va e in
              let high = in_run_hi (virtual_of first) n va e in
              let room : y.memory.len ≤ 4096 * y.count = ran.room in
              let one : in_run y.first.0 y.count (va - pages_end) ≡ true =
              in_run_is y.first.0 y.count (va - pages_end) (omega arith) (omega (arith, room, lo, hi)) in
              let two : in_run first n (va - pages_end) ≡ true =
              in_run_is first n (va - pages_end) (omega arith) (omega arith) in
              absurd (false≢true (sym (other-out k (va - pages_end) y ne had one) ∙ two))
          by false e = refl

      own-byte : (va : ℕ) → is_in_memory va (memory_of x) ≡ true → in_run (virtual_of first) n va ≡ true
      own-byte va inside =
          let lo = Rattle.lane_objects.proofs.KeptMemories.byte-lo first x.memory.len va inside in
          let hi = Rattle.lane_objects.proofs.KeptMemories.byte-hi first x.memory.len va inside in
          let room : x.memory.len ≤ 4096 * n = run.room in
          in_run_is (virtual_of first) n va (omega arith) (omega (arith, room, lo, hi))

      pub parted-reaches : Reaches h.pages.now (remove h.memories.map mem) m
      parted-reaches va = reached va ∙ by (in_run (virtual_of first) n va) refl
        where
          none-in : in_run (virtual_of first) n va ≡ true → (b : Bool) →
              list_any (λ e. is_in_memory va (memory_of e.1)) (entries (remove h.memories.map mem)) ≡ b → b ≡ false
          none-in inside true e =
              let r = any-cut (λ e. is_in_memory va (memory_of e.1)) h.memories.map mem e in
              absurd (false≢true (sym (other-byte va r.0 r.1 r.2 r.3 r.4) ∙ inside))
          none-in inside false e = refl

          same-in : in_run (virtual_of first) n va ≡ false →
              list_any (λ e. is_in_memory va (memory_of e.1)) (entries h.memories.map)
              ≡ list_any (λ e. is_in_memory va (memory_of e.1)) (entries (remove h.memories.map mem))
          same-in outside = same_tests _ _ (λ e.
              let r = any_entry (λ e. is_in_memory va (memory_of e.1)) (entries h.memories.map)
              (Rattle.std.specs.FinMap.entries_sorted h.memories.map) e in
              left r.key r.value (Rattle.std.specs.FinMap.get-entries h.memories.map r.key ∙ r.found) r.passes
              (decided r.key mem)) (λ e.
              let r = any-cut (λ e. is_in_memory va (memory_of e.1)) h.memories.map mem e in
              any-there (λ e. is_in_memory va (memory_of e.1)) h.memories.map r.0 r.1 r.3 r.4)
            where
              left : (k : ℕ) (y : KeptMemory) → get h.memories.map k ≡ Some y → is_in_memory va (memory_of y) ≡ true →
                  (k ≡ mem) ⊎ (k ≢ mem) →
                  list_any (λ e. is_in_memory va (memory_of e.1)) (entries (remove h.memories.map mem)) ≡ true
              left k y had inside (inl e) =
                  let is : Some x ≡ Some y = sym there ∙ ap (get h.memories.map) (sym e) ∙ had in
                  let same : x ≡ y = cc in
                  absurd (false≢true (sym outside ∙ own-byte va
                  (ap (λ (z : KeptMemory). is_in_memory va (memory_of z)) same ∙ inside)))
              left k y had inside (inr ne) =
                  any-left (λ e. is_in_memory va (memory_of e.1)) h.memories.map mem k y ne had inside

          alike : (o : Option ℕ) → in_run (virtual_of first) n va ≡ false →
              reached_in o h.memories.map va ≡ reached_in o (remove h.memories.map mem) va
          alike (Some pa) e = refl
          alike None e = ap (λ b. if b then Some (physical_of va) else None) (same-in e)

          by : (b : Bool) → in_run (virtual_of first) n va ≡ b →
              (if b then None else memory_physical h.memory.memory va)
              ≡ reached_in (physical_in h.pages.now va) (remove h.memories.map mem) va
          by true e =
              let lo = in_run_lo (virtual_of first) n va e in
              sym (ap (λ o. reached_in o (remove h.memories.map mem) va)
              (no-page h.maxmem h.pages.now va wired.machine.pages (omega arith))
              ∙ ap (λ b. if b then Some (physical_of va) else None) (none-in e _ refl))
          by false e = h.reaches va ∙ alike (physical_in h.pages.now va) e

    module _ (bytes : FinMap nat_cmp Bool) (marked : bytes ≡ without h.loans.bytes (run_of first (4096 * n)))
        (left : (a : ℕ) → wire m a ≡ (if in_run first n a then 0 else wire h.memory.memory a)) where
      marks : (a : ℕ) → get bytes a ≡ cond (in_run first n a) None (get h.loans.bytes a)
      marks a =
          ap (λ b. get b a) marked ∙ get-without h.loans.bytes (run_of first (4096 * n)) a
          ∙ ap (λ b. cond b None (get h.loans.bytes a)) (among_run first (4096 * n) a)

      pub parted-covered : IsCovered m bytes
      parted-covered a =
          ap is_some (marks a) ∙ by (in_run first n a) (h.covered a)
          ∙ ap (λ b. is_some (cond b None (get h.memory.memory.frames (a / 4096))))
          (sym (in_run_page first n a (λ some. part-whole)))
          ∙ sym (ap is_some (goes.frames (a / 4096)))
        where
          by : (b : Bool) → contains_key h.loans.bytes a ≡ memory_has_frame h.memory.memory (a / 4096) →
              is_some (cond b None (get h.loans.bytes a))
              ≡ is_some (cond b None (get h.memory.memory.frames (a / 4096)))
          by true e = refl
          by false e = e

      stays : (a : ℕ) → in_run first n a ≡ false → wire m a ≡ wire h.memory.memory a
      stays a e = left a ∙ ap (λ b. if b then 0 else wire h.memory.memory a) e

      pub held-parted : held bytes h.loans.loans (devices_of h.maps.map) m ≡ parted (in_run first n) l.memory
      held-parted = λ i a. (at a (in_run first n a) refl) i
        where
          at : (a : ℕ) (b : Bool) → in_run first n a ≡ b →
              held bytes h.loans.loans (devices_of h.maps.map) m a ≡ parted (in_run first n) l.memory a
          at a true e =
              ap (λ o. content_of o (byte_among (devices_of h.maps.map) m (entries h.loans.loans) a))
              (marks a ∙ ap (λ b. cond b None (get h.loans.bytes a)) e)
              ∙ sym (ap (λ b. if b then None else l.memory a) e)
          at a false e =
              ap (λ o. content_of o (byte_among (devices_of h.maps.map) m (entries h.loans.loans) a))
              (marks a ∙ ap (λ b. cond b None (get h.loans.bytes a)) e)
              ∙ ap (content_of (get h.loans.bytes a)) (byte-steady h wired m a (stays a e))
              ∙ sym (ap (λ b. if b then None else l.memory a) e)

      pub parted-own : (a : ℕ) → is_some (parted (in_run first n) l.memory a) ≡ true → wire m a ≡ wire h.memory.memory a
      parted-own a after = by (in_run first n a) refl after
        where
          by : (b : Bool) → in_run first n a ≡ b → is_some (if b then None else l.memory a) ≡ true →
              wire m a ≡ wire h.memory.memory a
          by true e g = absurd (false≢true g)
          by false e g = stays a e

      pub parted-known : (a v : ℕ) → l.memory a ≡ None → parted (in_run first n) l.memory a ≡ Some (Known v) →
          wire m a ≡ v
      parted-known a v none is = by (in_run first n a) is
        where
          gone : None ≡ Some (Known v) → ⊥
          gone e = absurd (cc)

          by : (b : Bool) → (if b then None else l.memory a) ≡ Some (Known v) → wire m a ≡ v
          by true g = absurd (gone g)
          by false g = absurd (gone (sym none ∙ g))
