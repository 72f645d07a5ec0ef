-- What a write of the driver that is done makes of its ideal state and of what it holds.
use Rattle.std.proofs.Common.{◌≡◌, ℕ, List, map, length, Some, None, sym, ap, ◌∙◌, subst, unwrap_or}
use Rattle.busdma_machine.specs.declared.bounce.hold.HubReply.TheVariants.{Nothing}
use Rattle.busdma_base.specs.declared.journals.answer.Answer.TheVariants as answer
use Rattle.busdma_machine.specs.declared.report.Judged.TheVariants.{Fine, Refused}
use Rattle.busdma_machine.specs.declared.report.Report.{Report}
use Rattle.busdma_machine.specs.declared.report.ReportName.TheVariants.{Absent}
use Rattle.busdma_base.specs.declared.scenarios.script.Place.{Place}
use Rattle.busdma_machine.specs.Judging.{judged}
use Rattle.busdma_machine.specs.Machine.Wire.{Wire, put}
use Rattle.busdma_machine.specs.Runs.{run_of}
use Rattle.busdma_rules.specs.Lending.Access.{cpu_write_answer}
use Rattle.phys_memory.specs.Memory as memory
use Rattle.busdma_rules.specs.Memory.Translation.{physical_or_0, unreached}
use Rattle.ideal_lane.specs.Accesses.{cpu_write}
use Rattle.ideal_lane.specs.Asking.{Asking, by_reply}
use Rattle.ideal_lane.specs.IdealMemory.{written}
use Rattle.ideal_lane.specs.Outcomes.{Outcome, gives, unless_absent, unless_refused}
use Rattle.ideal_lane.specs.Places.{bytes_at, first_unreached, virtual_at}
use Rattle.ideal_lane.specs.State.{LaneState}
use Rattle.ideal_wire.specs.Centre.{IsFaithful}
use Rattle.ideal_wire.specs.WireStep as wires
use Rattle.ideal_wire.specs.WireStep.{if_done, place_bytes}
use Rattle.ideal_wire.proofs.Faithful.Calls.{cpu_write-faithful}
use Rattle.lane_state.specs.declared.holdings.Holdings.{Holdings}
use Rattle.lane_state.specs.Changes.{with_written}
use Rattle.lane_state.specs.Ideal.{ideal_of}
use Rattle.lane_state.specs.Wire.{IsWired, wire_of}
use Rattle.lane_state.proofs.Reading.{bytes-same, passes, reached-same, refused}

-- a step that answers a report leaves the wire
pub wire-idle : (l : LaneState) (r : Report) (s : Asking Outcome) (after w : Wire) →
    gives l (answer.Report r) ≡ s → w ≡ if_done s after w
wire-idle l r s after w e = ap (λ x. if_done x after w) e

module _ (h : Holdings) (place : Place) (va : ℕ) (at : virtual_at (ideal_of h) place ≡ Some va) where
  -- the bytes that the driver names, if it reaches them
  named : (len : ℕ) →
      map (physical_or_0 (memory.memory_physical h.memory.memory)) (run_of va len) ≡ place_bytes (ideal_of h) place len
  named len = bytes-same h va len ∙ ap (λ o. bytes_at (ideal_of h) (run_of (unwrap_or o 0) len)) (sym at)

-- a write at a place in a memory that does not exist
pub cpu_write-absent : (h : Holdings) (place : Place) (vs : List ℕ) → virtual_at (ideal_of h) place ≡ None →
    gives (ideal_of h) (answer.Report (record { name = Absent; at = 0 })) ≡ cpu_write place vs (ideal_of h)
cpu_write-absent h place vs none =
    let l = ideal_of h in
    sym (ap (λ o. unless_absent o l (λ va.
    unless_refused (first_unreached l va (length vs)) l (
    unless_refused (cpu_write_answer l.loans (bytes_at l (run_of va (length vs)))) l (
    gives (record l { memory = written (bytes_at l (run_of va (length vs))) vs l.memory }) answer.Done)))) none)

module _ (h : Holdings) (place : Place) (va : ℕ) (at : virtual_at (ideal_of h) place ≡ Some va) (vs : List ℕ) where
  placed : cpu_write place vs (ideal_of h)
      ≡ unless_refused (first_unreached (ideal_of h) va (length vs)) (ideal_of h) (
      unless_refused (cpu_write_answer h.loans.loans (bytes_at (ideal_of h) (run_of va (length vs)))) (ideal_of h) (
      gives (record (ideal_of h) {
        memory = written (bytes_at (ideal_of h) (run_of va (length vs))) vs (ideal_of h).memory;
      }) answer.Done))
  placed =
      let l = ideal_of h in
      ap (λ o. unless_absent o l (λ va.
      unless_refused (first_unreached l va (length vs)) l (
      unless_refused (cpu_write_answer l.loans (bytes_at l (run_of va (length vs)))) l (
      gives (record l { memory = written (bytes_at l (run_of va (length vs))) vs l.memory }) answer.Done)))) at

  -- a write of which a byte cannot be reached
  pub cpu_write-unmapped : (r : Report) →
      Refused r ≡ judged (unreached (memory.memory_physical h.memory.memory)) 0 (run_of va (length vs)) →
      gives (ideal_of h) (answer.Report r) ≡ cpu_write place vs (ideal_of h)
  cpu_write-unmapped r is =
      sym (placed ∙ refused (first_unreached (ideal_of h) va (length vs)) r (ideal_of h) _
      (reached-same h va (length vs) ∙ sym is))

  -- a write that is refused
  pub cpu_write-refused : (pas : List ℕ) (r : Report) →
      Fine ≡ judged (unreached (memory.memory_physical h.memory.memory)) 0 (run_of va (length vs)) →
      pas ≡ map (physical_or_0 (memory.memory_physical h.memory.memory)) (run_of va (length vs)) →
      Refused r ≡ cpu_write_answer h.loans.loans pas →
      gives (ideal_of h) (answer.Report r) ≡ cpu_write place vs (ideal_of h)
  cpu_write-refused pas r reaches here is =
      sym (placed ∙ passes (first_unreached (ideal_of h) va (length vs)) (ideal_of h) _
      (reached-same h va (length vs) ∙ sym reaches)
      ∙ refused _ r (ideal_of h) _
      (sym (is ∙ ap (cpu_write_answer h.loans.loans) (here ∙ bytes-same h va (length vs)))))

  step-done : (pas : List ℕ) →
      Fine ≡ judged (unreached (memory.memory_physical h.memory.memory)) 0 (run_of va (length vs)) →
      pas ≡ map (physical_or_0 (memory.memory_physical h.memory.memory)) (run_of va (length vs)) →
      Fine ≡ cpu_write_answer h.loans.loans pas →
      cpu_write place vs (ideal_of h)
      ≡ gives (record (ideal_of h) { memory = written pas vs (ideal_of h).memory }) answer.Done
  step-done pas reaches here fine =
      let l = ideal_of h in
      let there : pas ≡ bytes_at l (run_of va (length vs)) = here ∙ bytes-same h va (length vs) in
      placed ∙ passes (first_unreached l va (length vs)) l _ (reached-same h va (length vs) ∙ sym reaches)
      ∙ passes _ l _ (sym (fine ∙ ap (cpu_write_answer h.loans.loans) there))
      ∙ ap (λ xs. gives (record l { memory = written xs vs l.memory }) answer.Done) (sym there)

-- a write that is done
module _ (h : Holdings) (wired : IsWired h) (place : Place) (va : ℕ)
    (placed_at : virtual_at (ideal_of h) place ≡ Some va) (vs pas : List ℕ)
    (reaches : Fine ≡ judged (unreached (memory.memory_physical h.memory.memory)) 0 (run_of va (length vs)))
    (here : pas ≡ map (physical_or_0 (memory.memory_physical h.memory.memory)) (run_of va (length vs)))
    (fine : Fine ≡ cpu_write_answer h.loans.loans pas) where
  abbrev l : LaneState
  l = ideal_of h

  pub cpu_write-step : cpu_write place vs l ≡ gives (with_written pas vs l) answer.Done
  cpu_write-step = step-done h place va placed_at vs pas reaches here fine

  pub cpu_write-wire : wires.wire_cpu_write place vs l (wire_of h) ≡ put pas vs (wire_of h)
  cpu_write-wire =
      ap (λ s. if_done s (put (place_bytes l place (length vs)) vs (wire_of h)) (wire_of h)) cpu_write-step
      ∙ ap (λ xs. put xs vs (wire_of h)) (sym (here ∙ named h place va placed_at (length vs)))

  -- a write leaves the wire faithful
  pub cpu_write-stays : IsFaithful (with_written pas vs l) (put pas vs (wire_of h))
  cpu_write-stays =
      subst (IsFaithful (with_written pas vs l)) cpu_write-wire
      (subst (λ (s : Asking Outcome). IsFaithful (by_reply s Nothing).lane
      (wires.wire_cpu_write place vs l (wire_of h)))
      cpu_write-step
      (cpu_write-faithful l (wire_of h) wired.apart wired.laid wired.faithful place vs Nothing))
