-- The step of a ring's device, from the ring that a driver keeps to the step's end.
use Rattle.std.proofs.Common.{◌≡◌, ◌≢◌, ℕ, ◌+◌, ◌/◌, ◌%◌, ◌==◌, ◌≤◌, Bool, true, false, if◌then◌else◌, [], ◌∷◌}
use Rattle.std.proofs.Common.{map, Option, Some, None, Ok, is_some, unwrap_or, refl, sym, ap, ◌∙◌, subst, arith}
use Rattle.std.proofs.lemmas.Bool.{eq-eqb}
use Rattle.std.specs.FinMap.{entries, get}
use Rattle.busdma_base.specs.declared.journals.answer.Answer.{Answer}
use Rattle.busdma_base.specs.declared.journals.answer.Answer.TheVariants as answer
use Rattle.busdma_machine.specs.declared.bounce.hold.HubReply.TheVariants.{Nothing}
use Rattle.busdma_machine.specs.declared.report.Errno.TheVariants.{EINVAL}
use Rattle.busdma_machine.specs.declared.report.Report.{Report}
use Rattle.busdma_machine.specs.declared.report.ReportName.TheVariants.{Absent}
use Rattle.busdma_machine.specs.Machine.Wire.{Wire, put}
use Rattle.busdma_machine.specs.Runs.{run_of}
use Rattle.busdma_rules.specs.Lending.Loans.{load_bytes, loan_of}
use Rattle.phys_memory.specs.Memory.{memory_has_frame, wire}
use Rattle.busdma_rules.specs.declared.descriptor.Descriptor.{Descriptor}
use Rattle.busdma_rules.specs.Rings.Descriptors.{descriptor_of}
use Rattle.ideal_lane.specs.Accesses.{values}
use Rattle.ideal_lane.specs.Asking.{Gives, by_reply}
use Rattle.ideal_lane.specs.Outcomes.{Outcome, gives, unless_absent}
use Rattle.ideal_lane.specs.Accesses.{unless_unread}
use Rattle.ideal_lane.specs.Rings as rings
use Rattle.ideal_lane.specs.Rings.{candidates, candidates_in, fetch, fetched, head_at, head_of, is_work, moved_on}
use Rattle.ideal_lane.specs.Rings.{no_ring}
use Rattle.ideal_lane.specs.Rings.{retired, ring_step, told, used}
use Rattle.ideal_lane.specs.Standing.{IsRing, Stands}
use Rattle.ideal_lane.specs.State.{LaneMap, LaneRing, LaneState}
use Rattle.ideal_wire.specs.WireStep as wires
use Rattle.ideal_wire.specs.WireStep.{fetched_wire, if_fetched, if_step_done, load_buses, used_wire}
use Rattle.lane_state.specs.declared.holdings.Holdings.{Holdings}
use Rattle.lane_state.specs.declared.kept.KeptMemory.{KeptMemory}
use Rattle.lane_state.specs.declared.kept.KeptRing.{KeptRing}
use Rattle.lane_state.specs.Ideal.{given, ideal_of}
use Rattle.lane_state.specs.Kept.{memory_of, kept_ring}
use Rattle.lane_state.specs.Wire.{IsWired, wire_of}
use Rattle.lane_state.proofs.Keeping.{told-some}
use Rattle.lane_state.proofs.MapValues.{get-map_values, image-none, image-some}
use Rattle.lane_rings.specs.declared.rings.Candidate.{Candidate}
use Rattle.lane_rings.specs.declared.rings.Work.TheVariants as work
use Rattle.lane_rings.specs.Ringing.{IsChanged, IsReadable, IsUnread, candidate_of, retired_wire, use_step, work_of}
use Rattle.lane_access.specs.Steps.{IsLocalStep}
use Rattle.lane_access.proofs.DeviceReads.{not-there}
use Rattle.lane_access.proofs.Steps.{done-step, idle-step}
use Rattle.lane_rings.proofs.HeadBytes.{coherent-load, framed, reads, whole}
use Rattle.lane_rings.proofs.RingSteps.{first-is, step-idle, step-invalid, step-refused, step-unread, step-used}
use Rattle.lane_rings.proofs.RingSteps.{unread-unloaded}
use Rattle.lane_rings.proofs.RingUses.{differ, still-readable, used-either}

abbrev absent : Report
absent = record { name = Absent; at = 0 }

-- a step that did something changes the bytes of its access
told-wire : (l : LaneState) (d : Descriptor) (c : rings.Candidate) (after w : Wire) →
    if_fetched (told d c l) after w ≡ after
told-wire l d c after w = by (d.kind == 1)
  where
    by : (b : Bool) →
        if_fetched (if b then answer.Bytes (values l (load_bytes l.loans c.map c.off d.len)) else answer.Done) after w
        ≡ after
    by true = refl
    by false = refl

module _ (h : Holdings) (k : ℕ) where
  abbrev l : LaneState
  l = ideal_of h

  -- the step leaves all holdings and has this answer
  abbrev Stays : Answer → Type 0
  Stays a = IsLocalStep (ring_step k) (wires.wire_ring_step k) h h (Ok a)

  -- a step that does nothing changes no byte
  undone : (a b : Answer) → a ≡ b → ((after w : Wire) → if_fetched b after w ≡ w) → gives l b ≡ ring_step k l → Stays a
  undone a b told idle is =
      let after = fetched_wire (rings.ring_of l k) l (wire_of h) in
      idle-step (ring_step k) (wires.wire_ring_step k) h a b told is
      (sym (idle after (wire_of h)) ∙ ap (λ s. if_step_done s after (wire_of h)) is)

  -- there is no such ring
  pub no-ring : (a : Answer) → a ≡ answer.Report absent → get h.rings.map k ≡ None → Stays a
  no-ring a told none =
      undone a (answer.Report absent) told (λ after w. refl)
      (sym (ap (λ o. unless_absent o l (λ (q : LaneRing).
      unless_unread q.mem (head_at q) 16 l (fetch k q (head_of q l) l))) (image-none kept_ring h.rings.map k none)))

  module _ (wired : IsWired h) (stands : Stands (ideal_of h)) (q : KeptRing) (ring : get h.rings.map k ≡ Some q) where
    abbrev r : LaneRing
    r = kept_ring q

    abbrev ideal-ring : get l.rings k ≡ Some r
    ideal-ring = image-some kept_ring h.rings.map k q ring

    abbrev pub is-ring : IsRing l.place l.maps l.mems r
    is-ring = stands.ring k r ideal-ring

    -- the device's read of the descriptor at the head is refused
    pub unread-head : (u : Report) → IsUnread l q.mem (head_at r) 16 u → Stays (answer.Report u)
    unread-head u off =
        undone (answer.Report u) (answer.Report u) refl (λ after w. refl) (step-unread l k r ideal-ring u off)

    -- if the ring's memory is not there, its map is not there either
    pub no-memory : (a : Answer) → a ≡ answer.Report absent → get h.memories.map q.mem ≡ None → Stays a
    no-memory a told none =
        undone a (answer.Report absent) told (λ after w. refl)
        (step-unread l k r ideal-ring absent
        (unread-unloaded l q.mem (head_at r) 16 absent (not-there l q.mem (no-map (get l.maps q.mem) refl))))
      where
        no-map : (o : Option LaneMap) → get l.maps q.mem ≡ o → o ≡ None
        no-map None e = refl
        no-map (Some o) e =
            let gone : get l.mems q.mem ≡ None = image-none memory_of h.memories.map q.mem none in
            let there : is_some (get l.mems q.mem) ≡ true = is-ring.there o e in
            let no : false ≡ true = sym (ap is_some gone) ∙ there in absurd (cc)

    module _ (x : KeptMemory) (memory : get h.memories.map q.mem ≡ Some x) (read : IsReadable l q.mem (head_at r) 16)
        (head : ℕ) (place : head ≡ x.first.0 + head_at r) where
      pub head-there : memory_has_frame h.memory.memory (head / 4096) ≡ true
      head-there =
          subst (λ a. memory_has_frame h.memory.memory (a / 4096) ≡ true) (sym place)
          (framed h wired q.mem x memory read.map read.there read.loaded (head_at r) 16 read.range (omega arith))

      pub head-inside : head % 4096 + 16 ≤ 4096
      head-inside = subst (λ a. a % 4096 + 16 ≤ 4096) (sym place) within
        where
          within : (x.first.0 + head_at r) % 4096 + 16 ≤ 4096
          within = let first = whole h wired q.mem x memory read.map read.there read.loaded in omega (arith, first)

      coherent : (loan_of l.loans q.mem).coherent ≡ true
      coherent =
          coherent-load h wired q.mem x memory read.map read.there read.loaded
          (is-ring.coherent (memory_of x) (image-some memory_of h.memories.map q.mem x memory))

      -- ---- the descriptor at the head

      module _ (d : Descriptor) (is : d ≡ descriptor_of (map (wire h.memory.memory) (run_of head 16))) where
        same : d ≡ head_of r l
        same =
            is ∙ ap (λ a. descriptor_of (map (wire h.memory.memory) (run_of a 16))) place
            ∙ ap descriptor_of (sym (reads h wired q.mem x memory read.map read.there read.loaded (head_at r) 16
            read.range read.fine))

        -- the descriptor is the driver's
        pub idle-head : d.owner ≢ 1 → Stays answer.Idle
        idle-head off =
            undone answer.Idle answer.Idle refl (λ after w. refl)
            (step-idle l k r ideal-ring read
            (ap (λ (e : Descriptor). e.owner == 1) (sym same) ∙ differ d.owner 1 off))

        module _ (owned : d.owner ≡ 1) where
          owned-head : ((head_of r l).owner == 1) ≡ true
          owned-head = ap (λ (e : Descriptor). e.owner == 1) (sym same) ∙ eq-eqb d.owner 1 owned

          -- no descriptor can say this work
          pub invalid-head : is_work d.kind d.len ≡ false → Stays (answer.Refused EINVAL)
          invalid-head off =
              undone (answer.Refused EINVAL) (answer.Refused EINVAL) refl (λ after w. refl)
              (step-invalid l k r ideal-ring read owned-head
              (ap (λ (e : Descriptor). is_work e.kind e.len) (sym same) ∙ off))

          module _ (works : is_work d.kind d.len ≡ true) where
            works-head : is_work (head_of r l).kind (head_of r l).len ≡ true
            works-head = ap (λ (e : Descriptor). is_work e.kind e.len) (sym same) ∙ works

            work-head : work_of d l (candidates_in d q.mem l (entries l.maps))
                ≡ work_of (head_of r l) l (candidates r l)
            work-head = ap (λ e. work_of e l (candidates_in e q.mem l (entries l.maps))) same

            -- no candidate allows the access
            pub refused-head : (u : Report) →
                work.Refused u ≡ work_of d l (candidates_in d q.mem l (entries l.maps)) → Stays (answer.Report u)
            refused-head u found =
                undone (answer.Report u) (answer.Report u) refl (λ after w. refl)
                (step-refused l k r ideal-ring read owned-head works-head u (found ∙ work-head))

            -- ---- a step that is done

            module _ (c : Candidate) (found : work.At c ≡ work_of d l (candidates_in d q.mem l (entries l.maps)))
                (h1 : Holdings) (a : Answer)
                (first : IsLocalStep (use_step d c) (used_wire d (candidate_of c)) h h1 (Ok a)) where
              abbrev at : rings.Candidate
              at = candidate_of c

              steps : ring_step k l
                  ≡ gives (fetched k r (head_of r l) at l).lane (fetched k r (head_of r l) at l).answer
              steps = step-used l k r ideal-ring read owned-head works-head c (found ∙ work-head)

              used-is : Gives (given h1 a) ≡ gives (used (head_of r l) at l) (told (head_of r l) at l)
              used-is = first.done ∙ ap (λ e. gives (used e at l) (told e at l)) same

              used-lane : ideal_of h1 ≡ used (head_of r l) at l
              used-lane = ap (λ s. (by_reply {X = Outcome} s Nothing).lane) used-is

              used-answer : a ≡ told (head_of r l) at l
              used-answer = ap (λ s. (by_reply {X = Outcome} s Nothing).answer) used-is

              -- what holds of the driver before and after a write of the device holds after the access
              after-use : (P : LaneState → Type 0) → P (used (head_of r l) at l) → P (ideal_of h1)
              after-use P = subst P (sym used-lane)

              pub then-readable : IsReadable (ideal_of h1) q.mem (head_at r) 16
              then-readable =
                  after-use (λ n. IsReadable n q.mem (head_at r) 16)
                  (still-readable l q.mem (head_at r) 16 read (head_of r l) at)

              pub then-coherent : (loan_of (ideal_of h1).loans q.mem).coherent ≡ true
              then-coherent =
                  after-use (λ n. (loan_of n.loans q.mem).coherent ≡ true)
                  (used-either (λ n. (loan_of n.loans q.mem).coherent ≡ true) l (head_of r l) at coherent coherent)

              module _ (h2 : Holdings) (second : IsChanged (retired r) (retired_wire r) h1 h2) where
                -- the ring is as it was
                pub ring-kept : get h2.rings.map k ≡ Some q
                ring-kept =
                    let before : get (used (head_of r l) at l).rings k ≡ Some r =
                    used-either (λ n. get n.rings k ≡ Some r) l (head_of r l) at ideal-ring ideal-ring in
                    let there : get (ideal_of h2).rings k ≡ Some r =
                    ap (λ (n : LaneState). get n.rings k) second.done
                    ∙ ap (λ (n : LaneState). get n.rings k) used-lane ∙ before in
                    let y = told-some kept_ring (get h2.rings.map k) r
                    (sym (get-map_values kept_ring h2.rings.map k) ∙ there) in
                    y.1 ∙ (λ i. Some (record { mem = (y.2 i).mem; slots = (y.2 i).slots; head = (y.2 i).head }))

                module _ (h3 : Holdings) (third : IsChanged (moved_on k r) (λ l w. w) h2 h3) where
                  all-wire : wire_of h3 ≡ wires.wire_ring_step k l (wire_of h)
                  all-wire =
                      third.wire ∙ second.wire
                      ∙ (λ i. put (load_buses (used-lane i) q.mem (head_at r + 14) 2) (0 ∷ 1 ∷ [])
                      ((first.wire ∙ ap (λ e. used_wire e at l (wire_of h)) same) i))
                      ∙ ap (λ ks. put ks (0 ∷ 1 ∷ []) (used_wire (head_of r l) at l (wire_of h)))
                      (used-either (λ n. load_buses n q.mem (head_at r + 14) 2 ≡ load_buses l q.mem (head_at r + 14) 2)
                      l (head_of r l) at refl refl)
                      ∙ sym (ap (λ y. put (load_buses l q.mem (head_at r + 14) 2) (0 ∷ 1 ∷ [])
                      (used_wire (head_of r l) y l (wire_of h)))
                      (ap (λ o. unwrap_or o (record { map = 0; off = 0 }))
                      (first-is l k r ideal-ring read owned-head works-head c (found ∙ work-head))))
                      ∙ sym (told-wire l (head_of r l) at (fetched_wire r l (wire_of h)) (wire_of h))
                      ∙ sym (ap (λ s. if_step_done s (fetched_wire r l (wire_of h)) (wire_of h)) steps)
                      ∙ sym (ap (λ o. if_step_done (ring_step k l) (fetched_wire (unwrap_or o no_ring) l (wire_of h))
                      (wire_of h)) ideal-ring)

                  -- the access is done, the descriptor is retired, and the head has moved on
                  pub all-done : IsLocalStep (ring_step k) (wires.wire_ring_step k) h h3 (Ok a)
                  all-done =
                      done-step
                      ((λ i. gives ((third.done ∙ ap (moved_on k r) (second.done ∙ ap (retired r) used-lane)) i)
                      (used-answer i))
                      ∙ sym steps)
                      all-wire (third.script ∙ second.script ∙ first.script)
                      (third.memories ∙ second.memories ∙ first.memories)
                      (third.agenda ∙ second.agenda ∙ first.agenda)
