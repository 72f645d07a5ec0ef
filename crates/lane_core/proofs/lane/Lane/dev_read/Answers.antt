use Rattle.std.proofs.Common.{ap, sym, ◌∙◌, subst}
use Rattle.busdma_base.specs.declared.journals.answer.Answer.{Answer}
use Rattle.ideal_lane.specs.Accesses as accesses
use Rattle.ideal_lane.specs.Outcomes.{gives}
use Rattle.ideal_wire.specs.WireStep.{Reads, load_buses}
use Rattle.lane_state.specs.Ideal.{ideal_of}
use Rattle.lane_state.specs.Wire.{wire_of}
use Rattle.lane_state.proofs.Doors.{ok-map}
use Rattle.lane_core.proofs.LaneCalls.{called-lane, foreign-call, kept-on, own-call}
use Rattle.lane_core.proofs.OneStanding.{stands-of}
use Rattle.lane_core.proofs.lane.Lane.dev_read.Goals as goal

pub dev_read-requires-clause-stands : goal.dev_read-requires-clause-stands
dev_read-requires-clause-stands c = let l = c.args.self.now in stands-of (ideal_of l.holdings) l.stands

pub invariant_of-self : goal.invariant_of-self
invariant_of-self c =
    let l = c.args.self.now in
    let h = l.holdings in
    let k = c.dev_read.new.holdings in
    let r = c.dev_read.ensures in
    let lane =
    called-lane h k
    (record { wired = l.wired; stands = l.stands; small = l.small; length = l.length; room = l.room })
    (kept-on h k l.wired r.kept) r.script r.agenda in
    record {
      wired = lane.wired;
      stands = lane.stands;
      small = lane.small;
      length = lane.length;
      room = lane.room;
    }

pub returns-then-not-owns-clause-done : goal.returns-then-not-owns-clause-done
returns-then-not-owns-clause-done c =
    let l = ideal_of c.args.self.now.holdings in
    ap (gives l) c.report.ensures
    ∙ sym (foreign-call c.args.map l (accesses.dev_read c.args.map.made_at c.args.off c.args.len l)
    (sym c.owns.ensures ∙ c.if-not-owns.true))

pub returns-then-not-owns-clause-read : goal.returns-then-not-owns-clause-read
returns-then-not-owns-clause-read c =
    let h = c.args.self.now.holdings in
    subst (λ (a : Answer). Reads a (load_buses (ideal_of h) c.args.map.made_at c.args.off c.args.len) (wire_of h))
    (sym c.report.ensures) tt

pub returns-clause-done : goal.returns-clause-done
returns-clause-done c =
    let l = ideal_of c.args.self.now.holdings in
    ok-map c.dev_read.result _ _ (λ a done. done
    ∙ sym (own-call c.args.map l (accesses.dev_read c.args.map.made_at c.args.off c.args.len l)
    (sym c.owns.ensures ∙ c.if-not-owns.false))) c.dev_read.ensures.done

pub returns-clause-same : goal.returns-clause-same
returns-clause-same c = c.dev_read.ensures.kept.ideal
