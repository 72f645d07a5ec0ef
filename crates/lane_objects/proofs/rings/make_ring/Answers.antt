use Rattle.std.proofs.Common.{◌≡◌, ℕ, Bool, true, false, Some, None, if◌then◌else◌, ap, sym, ◌∙◌}
use Rattle.std.specs.FinMap.{get}
use Rattle.busdma_base.specs.declared.journals.answer.Answer.TheVariants as answer
use Rattle.busdma_machine.specs.declared.report.Errno.TheVariants.{EINVAL}
use Rattle.busdma_machine.specs.declared.report.ReportName.TheVariants.{Absent}
use Rattle.ideal_lane.specs.Outcomes.{gives, unless_absent}
use Rattle.ideal_lane.specs.Rings.{fits_in, ring, with_ring}
use Rattle.ideal_lane.specs.State.{LaneMemory, LaneRing, LaneState}
use Rattle.lane_state.specs.Ideal.{ideal_of}
use Rattle.lane_state.specs.Kept.{memory_of, kept_ring}
use Rattle.lane_state.specs.MapValues.{map_values}
use Rattle.lane_state.proofs.MapValues.{image-none, image-some}
use Rattle.lane_objects.proofs.rings.make_ring.Goals as goal

-- the ring that a step makes, by whether the memory is there
module _ (l : LaneState) (mem slots : ℕ) where
  absent : get l.mems mem ≡ None → gives l (answer.Report (record { name = Absent; at = 0 })) ≡ ring mem slots l
  absent none = sym (ap (λ o. unless_absent o l (λ (x : LaneMemory).
      if fits_in slots x
      then gives (with_ring l.place (record { mem = mem; slots = slots; head = 0 }) l) answer.Done
      else gives l (answer.Refused EINVAL))) none)

  there : (x : LaneMemory) → get l.mems mem ≡ Some x → (b : Bool) → b ≡ fits_in slots x →
      (if b then gives (with_ring l.place (record { mem = mem; slots = slots; head = 0 }) l) answer.Done
      else gives l (answer.Refused EINVAL)) ≡ ring mem slots l
  there x some b is =
      ap (λ f. if f then gives (with_ring l.place (record { mem = mem; slots = slots; head = 0 }) l) answer.Done
      else gives l (answer.Refused EINVAL)) is
      ∙ sym (ap (λ o. unless_absent o l (λ (y : LaneMemory).
      if fits_in slots y
      then gives (with_ring l.place (record { mem = mem; slots = slots; head = 0 }) l) answer.Done
      else gives l (answer.Refused EINVAL))) some)

pub returns-in_default-clause-done : goal.returns-in_default-clause-done
returns-in_default-clause-done c =
    let h = c.args.holdings.now in
    ap (gives (ideal_of h)) c.report.ensures
    ∙ absent (ideal_of h) c.args.mem c.args.slots
    (image-none memory_of h.memories.map c.args.mem (sym c.in_default.ensures))

pub returns-then-not-fits_in-clause-done : goal.returns-then-not-fits_in-clause-done
returns-then-not-fits_in-clause-done c =
    let h = c.args.holdings.now in
    let off : false ≡ c.fits_in.result = sym c.if-not-fits_in.true in
    there (ideal_of h) c.args.mem c.args.slots (memory_of c.in-Some.kept.now)
    (image-some memory_of h.memories.map c.args.mem c.in-Some.kept.now (sym c.in-Some.ensures)) false
    (off ∙ c.fits_in.ensures)

pub returns-clause-done : goal.returns-clause-done
returns-clause-done c =
    let h = c.args.holdings.now in
    let on : true ≡ c.fits_in.result = sym c.if-not-fits_in.false in
    let rings = ap (λ t. map_values kept_ring t.map) c.reserve.ensures.kept in
    let made : LaneRing = record { mem = c.args.mem; slots = c.args.slots; head = 0 } in
    ap (λ l. gives l answer.Done) c.put_ring.ensures.done
    ∙ (λ i. gives (with_ring h.agenda.place made (record (ideal_of h) { rings = rings i })) answer.Done)
    ∙ there (ideal_of h) c.args.mem c.args.slots (memory_of c.in-Some.kept.now)
    (image-some memory_of h.memories.map c.args.mem c.in-Some.kept.now (sym c.in-Some.ensures)) true
    (on ∙ c.fits_in.ensures)
