use Rattle.std.proofs.Common.{◌≡◌, rules, ap, ◌∙◌}
use Rattle.std.specs.Prelude.{replicate}
use Rattle.std.proofs.lemmas.Bool.{eq-eqb}
use Rattle.busdma_base.specs.declared.journals.answer.Answer.{Answer}
use Rattle.busdma_base.specs.declared.journals.answer.Answer.TheVariants as answer
use Rattle.busdma_rules.specs.Lending.Loans.{load_bytes}
use Rattle.ideal_lane.specs.Accesses.{dev_read, dev_write}
use Rattle.ideal_lane.specs.Asking.{Gives}
use Rattle.ideal_lane.specs.Rings.{stored}
use Rattle.ideal_wire.specs.WireStep as wires
use Rattle.ideal_wire.specs.WireStep.{used_wire}
use Rattle.lane_state.specs.Ideal.{given, ideal_of}
use Rattle.lane_state.specs.Wire.{IsWired, wire_of}
use Rattle.lane_access.proofs.Steps.{always, read-step, same-step}
use Rattle.lane_rings.specs.Ringing.{candidate_of, use_step}
use Rattle.lane_rings.proofs.RingUses.{both-ok, differ, kept-wired, lane-of, read-used, read-wire, write-done}
use Rattle.lane_rings.proofs.RingUses.{write-used}
use Rattle.lane_rings.proofs.RingUses.{write-wire, written-wired}
use Rattle.lane_rings.proofs.rings.access.Goals as goal

pub returns-then-descriptor-eq1-clause-step : goal.returns-then-descriptor-eq1-clause-step
returns-then-descriptor-eq1-clause-step c =
    let h = c.args.holdings.now in
    let d = c.args.descriptor in
    let x = c.args.candidate in
    let reads = eq-eqb d.kind 1 c.if-descriptor-eq1.true in
    same-step (dev_read x.map x.off d.len) (use_step d x) (λ l w. w) (used_wire d (candidate_of x)) h
    c.dev_read.new.holdings c.dev_read.result (read-used (ideal_of h) d x c.requires.allowed reads)
    (read-wire (ideal_of h) d x c.requires.allowed reads (wire_of h)) (read-step _ _ _ _ _ c.dev_read.ensures)

pub returns-then-descriptor-eq1-clause-wired : goal.returns-then-descriptor-eq1-clause-wired
returns-then-descriptor-eq1-clause-wired c =
    let h = c.args.holdings.now in
    always c.dev_read.result (IsWired c.dev_read.new.holdings)
    (kept-wired h c.dev_read.new.holdings c.requires.wired c.dev_read.ensures.kept.ideal c.dev_read.ensures.wire)

pub returns-clause-step : goal.returns-clause-step
returns-clause-step c =
    let h = c.args.holdings.now in
    let l = ideal_of h in
    let d = c.args.descriptor in
    let x = c.args.candidate in
    let filled : c.in_ok-bytes.bytes.items ≡ replicate d.len d.fill = search rules in
    let items : c.deref.result.now ≡ replicate d.len d.fill = c.deref.ensures.value ∙ filled in
    let fills = differ d.kind 1 c.if-descriptor-eq1.false in
    same-step (dev_write x.map x.off c.deref.result.now) (use_step d x)
    (wires.wire_dev_write x.map x.off c.deref.result.now) (used_wire d (candidate_of x)) h
    c.dev_write.new.holdings c.dev_write.result
    (ap (λ vs. dev_write x.map x.off vs l) items ∙ write-used l d x c.requires.allowed fills)
    (ap (λ vs. wires.wire_dev_write x.map x.off vs l (wire_of h)) items
    ∙ write-wire l d x c.requires.allowed fills (wire_of h))
    c.dev_write.ensures

pub returns-clause-wired : goal.returns-clause-wired
returns-clause-wired c =
    let h = c.args.holdings.now in
    let k = c.dev_write.new.holdings in
    let l = ideal_of h in
    let d = c.args.descriptor in
    let x = c.args.candidate in
    let vs = replicate d.len d.fill in
    let filled : c.in_ok-bytes.bytes.items ≡ replicate d.len d.fill = search rules in
    let items : c.deref.result.now ≡ replicate d.len d.fill = c.deref.ensures.value ∙ filled in
    let done = write-done l d x c.requires.allowed (differ d.kind 1 c.if-descriptor-eq1.false) in
    both-ok c.dev_write.result
    (λ a. Gives (given k a) ≡ dev_write x.map x.off c.deref.result.now l)
    (λ (a : Answer). wire_of k ≡ wires.wire_dev_write x.map x.off c.deref.result.now l (wire_of h)) (IsWired k)
    (λ a e w. written-wired h k c.requires.wired c.requires.stands x.map x.off vs
    (load_bytes l.loans x.map x.off d.len) done
    (lane-of (given k a) (record { lane = stored x.map x.off d.len vs l; answer = answer.Done })
    (e ∙ ap (λ bs. dev_write x.map x.off bs l) items ∙ done))
    (w ∙ ap (λ bs. wires.wire_dev_write x.map x.off bs l (wire_of h)) items))
    c.dev_write.ensures.done c.dev_write.ensures.wire
