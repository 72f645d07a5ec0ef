-- What a resend leaves of a driver: from its load to its copy, or if it is not made.
use Rattle.std.proofs.Common.{◌≡◌, ◌⊎◌, ℕ, ◌+◌, ◌/◌, true, false, List, [], ◌∷◌, length, map, Option, Some, None}
use Rattle.std.proofs.Common.{Result, Ok, Err, IsErr, inl, is_some, refl, sym, ap, ◌∙◌, subst, arith}
use Rattle.std.specs.declared.alloc.AllocError.{AllocError}
use Rattle.std.specs.FinMap.{get}
use Rattle.std.specs.List.{AllByRecursion}
use Rattle.std.specs.Option.{option_map}
use Rattle.busdma_base.specs.declared.journals.answer.Answer.{Answer}
use Rattle.busdma_base.specs.declared.journals.answer.Answer.TheVariants as answer
use Rattle.busdma_machine.specs.declared.bounce.hold.HubReply.{HubReply}
use Rattle.busdma_machine.specs.declared.bounce.hold.HubReply.TheVariants.{Nothing}
use Rattle.busdma_machine.specs.declared.machine.address.Extent.{Extent}
use Rattle.busdma_machine.specs.declared.machine.bio.Bio.TheVariants.{Vector}
use Rattle.busdma_machine.specs.declared.report.Report.{Report}
use Rattle.busdma_machine.specs.Bounce.Door.{Seen}
use Rattle.busdma_machine.specs.Machine.Wire.{put}
use Rattle.busdma_machine.specs.Runs.{addresses}
use Rattle.loan_table.specs.Table.{AreIn}
use Rattle.mbuf_defrag.specs.Copying as copying
use Rattle.phys_memory.specs.Extents.{LiesInFrames}
use Rattle.phys_memory.specs.Frames.{Lie}
use Rattle.phys_memory.specs.Memory.{memory_has_frame, wire}
use Rattle.ideal_lane.specs.Asking.{Asking, Gives, Asks, by_reply}
use Rattle.ideal_lane.specs.Loads.{asked}
use Rattle.ideal_lane.specs.Outcomes.{Outcome}
use Rattle.ideal_lane.specs.Sends as sends
use Rattle.ideal_lane.specs.Sends.{Send, copied, due_send, load_again, outcome_with, with_bytes}
use Rattle.ideal_lane.specs.State.{LaneState}
use Rattle.ideal_wire.specs.WireStep as wires
use Rattle.ideal_wire.specs.WireStep.{is_free}
use Rattle.lane_state.specs.declared.holdings.Answered.{Answered}
use Rattle.lane_state.specs.declared.holdings.Holdings.{Holdings}
use Rattle.lane_state.specs.declared.kept.KeptMap.{KeptMap}
use Rattle.lane_state.specs.Changes.{Copies, IsWireOf, KeepsPromises, KeepsState, KeepsWhatStays, Stays, with_marked}
use Rattle.lane_state.specs.Covered.{is_idle_map, pages_due}
use Rattle.lane_state.specs.Doing.{IsDone, IsUndone}
use Rattle.lane_state.specs.Held.{devices_of}
use Rattle.lane_state.specs.Ideal.{given, ideal_of}
use Rattle.lane_state.specs.Kept.{map_of}
use Rattle.lane_state.specs.Wire.{IsWired, wire_of}
use Rattle.lane_state.proofs.Doors.{done-gives, unasked}
use Rattle.lane_state.proofs.Keeping.{bytes-same, idle-there}
use Rattle.lane_state.proofs.MapTables.{maps-of}
use Rattle.lane_state.proofs.MapValues.{get-map_values}
use Rattle.lane_sends.specs.Resends.{AreItsBytes, IsResent, IsStopped, IsUnrefused, KeepsForResend}
use Rattle.lane_sends.proofs.CopiedClusters.{held-behind, held-copied, marks}
use Rattle.lane_sends.proofs.LoadEndings.{IsAfterLoad, load-leaves}
use Rattle.lane_loads.proofs.Loaded.{none-loaned}
use Rattle.lane_sends.proofs.ResendSteps.{resend-done, wire-is}

-- what was made of a step was made with some reply
done-reply : {X : Type 0} (d : Seen) (lane : ℕ) (step : Asking X) (x : X) (e : Seen) → IsDone d lane step x e →
    (r : HubReply) × (x ≡ by_reply step r)
done-reply d lane (Gives y) x e h = (Nothing, h.0)
done-reply d lane (Asks c k) x e h = (h.reply, h.is)

-- a step from holdings that have the bytes of others
pub stays-from : (h r k : Holdings) → r.memory ≡ h.memory → r.maps ≡ h.maps → KeepsWhatStays r k → KeepsWhatStays h k
stays-from h r k memory maps stays = record {
  own = stays.own ∙ ap (λ m. wire m.memory) memory;
  pages = λ m. subst (λ t. ((devices_of k.maps.map m).pages ≡ (devices_of t.map m).pages)
      ⊎ (((devices_of t.map m).pages ≡ []) ⊎ ((devices_of k.maps.map m).pages ≡ []))) maps (stays.pages m);
}

-- bytes that are in one table are in another that has the same
same-in : (h k : Holdings) → ((a : ℕ) → get k.loans.bytes a ≡ get h.loans.bytes a) → (pas : List ℕ) →
    AreIn h.loans.bytes pas → AreIn k.loans.bytes pas
same-in h k same [] are = tt
same-in h k same (a ∷ pas) are = (ap is_some (same a) ∙ are.0, same-in h k same pas are.1)

idle-kept : (o : Option KeptMap) → is_free (option_map map_of o) ≡ true → is_idle_map o ≡ true
idle-kept None e = absurd (cc)
idle-kept (Some o) e = e

module _ (h : Holdings) (m : ℕ) (free : is_free (get (ideal_of h).maps m) ≡ true) where
  pub free-unloaned : get h.loans.loans m ≡ None
  free-unloaned =
      let idle = idle-there (get h.maps.map m)
      (idle-kept (get h.maps.map m) (ap is_free (sym (get-map_values map_of h.maps.map m)) ∙ free)) in
      none-loaned h.maps.map h.loans.loans h.agenda.returns h.agenda.promised (maps-of h) m idle.0 idle.0 idle.1 idle.2

-- the load of the clusters was made
module _ (h k : Holdings) (s : Send) (u : IsUnrefused (ideal_of h) s) (d e : Seen) (a : Answer)
    (done : IsDone d h.id.0 (load_again s (ideal_of h)) (given k a) e) (stays : KeepsWhatStays h k) where
  abbrev l : LaneState
  l = ideal_of h

  after : IsAfterLoad s.map l (ideal_of k)
  after =
      let x = done-reply d h.id.0 (load_again s l) (given k a) e done in
      subst (IsAfterLoad s.map l) (sym (ap (λ (o : Outcome). o.lane) x.1))
      (load-leaves s.map (asked s.map (Vector s.clusters) true s.items l) l x.0)

  unloaned : get h.loans.loans s.map ≡ None
  unloaned = free-unloaned h s.map u.free

  same-marks : (b : ℕ) → get k.loans.bytes b ≡ get h.loans.bytes b
  same-marks = marks h k s.map after stays unloaned

  pub inside-now : (pas : List ℕ) → AreIn h.loans.bytes pas → AreIn k.loans.bytes pas
  inside-now = same-in h k same-marks

  same-frame : (pa : ℕ) → memory_has_frame k.memory.memory (pa / 4096) ≡ memory_has_frame h.memory.memory (pa / 4096)
  same-frame pa = sym (k.covered pa) ∙ ap is_some (same-marks pa) ∙ h.covered pa

  pub lies-now : (es : List Extent) → Lie h.memory.memory es → Lie k.memory.memory es
  lies-now es lie = record { extents = lie.extents; frames = each es lie.frames }
    where
      each : (es : List Extent) → AllByRecursion (LiesInFrames h.memory.memory) es →
          AllByRecursion (LiesInFrames k.memory.memory) es
      each [] are = tt
      each (x ∷ xs) are = (same-frame x.pa.0 ∙ are.0, each xs are.1)

  -- the copy comes after the load
  module _ (wired : IsWired h) (due : due_send l ≡ Some s) (from to : List Extent) (are : AreItsBytes l s from to)
      (there : AreIn h.loans.bytes (addresses from)) (inside : AreIn h.loans.bytes (addresses to))
      (n : Holdings) (ideal : ideal_of n ≡ with_marked (addresses to) n.memory.memory k)
      (is : wire n.memory.memory ≡ copying.extents_copied from to (wire k.memory.memory)) where
    wire-now : wire n.memory.memory
        ≡ put (addresses to) (map (wire h.memory.memory) (addresses from)) (wire h.memory.memory)
    wire-now = is ∙ ap (λ w. put (addresses to) (map w (addresses from)) w) stays.own

    lane-is : given n a ≡ outcome_with (copied s l).memory (given k a)
    lane-is =
        ap (λ x. record { lane = x; answer = a }) ideal
        ∙ ap (λ w. record { lane = with_bytes w (ideal_of k); answer = a })
        (held-behind h k s.map after stays unloaned n.memory.memory (addresses to)
        ∙ held-copied h wired s due u from to are there inside n.memory.memory wire-now)

    pub resent-done : IsDone d h.id.0 (sends.resend s l) (given n a) e
    resent-done = resend-done l s u d (given n a) (given k a) e done lane-is

    pub resent-wire : n.maps ≡ k.maps → n.memories ≡ h.memories → IsWireOf h n (wires.wire_resend s l (wire_of h))
    resent-wire maps memories =
        Copies (addresses from) (addresses to) memories
        (wire-is l s u (wire_of h)
        ∙ (λ i. put (sym (are.clusters u.loads) i) (map (wire_of h) (sym are.chain i)) (wire_of h)))
        (record {
          own_from = there;
          own_to = inside;
          own = wire-now;
          pages = λ m. subst (λ t. ((devices_of t.map m).pages ≡ (devices_of h.maps.map m).pages)
              ⊎ (((devices_of h.maps.map m).pages ≡ []) ⊎ ((devices_of t.map m).pages ≡ []))) (sym maps)
              (stays.pages m);
        })

-- ---- a resend that is refused, or for which memory ran out

-- a resend that is refused leaves all holdings
pub stopped-resent : (h : Holdings) (s : Send) (d : Seen) (a : Answered) (r : Report) →
    a ≡ record { answer = answer.Report r; held = false } → IsStopped (ideal_of h) s r → IsResent s h h d d (Ok a)
stopped-resent h s d a r told stop =
    let step = sends.resend s (ideal_of h) in
    let x = given h (answer.Report r) in
    subst (λ b. IsResent s h h d d (Ok b)) (sym told) (record {
      done = done-gives d h.id.0 step x stop.step;
      held = unasked step x stop.step;
      wire = Stays refl (stop.wire (wire_of h)) (record { own = refl; pages = λ m. inl refl });
      err = tt;
      unpromised = tt;
      undone = tt;
      memories = refl;
      agenda = record { place = refl; end = refl; capacity = refl };
      promised = omega arith;
      due = refl;
    })

-- a resend for which memory ran out
pub failed-resend : (s : Send) (h k : Holdings) (d e : Seen) (r : Result Answered AllocError) → IsErr r →
    KeepsState h k → k.agenda ≡ h.agenda → IsUndone d e → k.memories ≡ h.memories → KeepsPromises h k →
    IsResent s h k d e r
failed-resend s h k d e (Ok a) failed state agenda undone memories due = absurd (cc)
failed-resend s h k d e (Err x) failed state agenda undone memories due = record {
  done = tt;
  held = tt;
  wire = tt;
  err = state;
  unpromised = agenda;
  undone = undone;
  memories = memories;
  agenda = record {
    place = ap (λ a. a.place) agenda;
    end = ap (λ a. a.length) agenda;
    capacity = ap (λ a. a.room + length a.queue) agenda;
  };
  promised = let same = ap (λ a. a.promised) agenda in omega (arith, same);
  due = due;
}

pub unmade-resend : (s : Send) (h : Holdings) (d : Seen) (r : Result Answered AllocError) → IsErr r →
    IsResent s h h d d r
unmade-resend s h d r failed =
    failed-resend s h h d d r failed (record { ideal = refl; bytes = bytes-same h }) refl (inl refl) refl refl

-- room for marks, and what follows it
module _ (h r : Holdings) (room : KeepsForResend h r) where
  pub state-from : (k : Holdings) → KeepsState r k → KeepsState h k
  state-from k state = record {
    ideal = state.ideal ∙ room.ideal;
    bytes = record {
      own = state.bytes.own ∙ ap (λ m. wire m.memory) room.memory;
      pages = λ m. state.bytes.pages m ∙ ap (λ t. (devices_of t.map m).pages) room.maps;
    };
  }

  pub keeps-room : KeepsState h r
  keeps-room = state-from r (record { ideal = refl; bytes = bytes-same r })

  pub loaded-from : (s : Send) (k : Holdings) (d e : Seen) (a : Answer) →
      IsDone d r.id.0 (load_again s (ideal_of r)) (given k a) e →
      IsDone d h.id.0 (load_again s (ideal_of h)) (given k a) e
  loaded-from s k d e a = subst (λ (x : LaneState). IsDone d x.id (load_again s x) (given k a) e) room.ideal

  pub due-from : (k : Holdings) → KeepsPromises r k → KeepsPromises h k
  due-from k due =
      ap (λ t. k.agenda.promised + pages_due t.map) (sym room.maps) ∙ due
      ∙ ap (λ a. a.promised + pages_due k.maps.map) room.agenda

  pub room-due : KeepsPromises h r
  room-due = due-from r refl
