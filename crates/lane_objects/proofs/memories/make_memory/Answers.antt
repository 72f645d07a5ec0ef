use Rattle.std.proofs.Common.{ap, sym, ◌∙◌}
use Rattle.ideal_lane.specs.Memories.{dmamem}
use Rattle.ideal_lane.specs.Outcomes.{gives}
use Rattle.lane_state.specs.declared.holdings.Answered.{Answered}
use Rattle.lane_state.specs.Ideal.{given, ideal_of}
use Rattle.lane_state.specs.Kept.{tag_of}
use Rattle.lane_state.proofs.Doors.{asked, done-gives, unasked}
use Rattle.lane_state.proofs.MapValues.{image-none, image-some}
use Rattle.lane_objects.proofs.MemorySteps.{make-absent, make-asks}
use Rattle.lane_objects.proofs.memories.make_memory.Goals as goal

pub returns-in_default-clause-done : goal.returns-in_default-clause-done
returns-in_default-clause-done g c =
    let h = c.args.holdings.now in
    let l = ideal_of h in
    done-gives (g.D.HubDoor.seen c.args.door.now) h.id.0 (dmamem c.args.tag c.args.flags l)
    (given h c.unheld.result.answer)
    (make-absent l c.args.tag c.args.flags (image-none tag_of h.tags.map c.args.tag (sym c.in_default.ensures))
    ∙ ap (gives l) (sym (ap (λ (x : Answered). x.answer) c.unheld.ensures ∙ c.report.ensures)))

pub returns-in_default-clause-held : goal.returns-in_default-clause-held
returns-in_default-clause-held g c =
    let h = c.args.holdings.now in
    let l = ideal_of h in
    ap (λ (x : Answered). x.held) c.unheld.ensures ∙ unasked (dmamem c.args.tag c.args.flags l) _
    (make-absent l c.args.tag c.args.flags (image-none tag_of h.tags.map c.args.tag (sym c.in_default.ensures)))

pub returns-clause-held : goal.returns-clause-held
returns-clause-held g c =
    let h = c.args.holdings.now in
    let l = ideal_of h in
    asked (dmamem c.args.tag c.args.flags l) _ _
    (make-asks l c.args.tag c.args.flags (tag_of c.in-Some.kept.now)
    (image-some tag_of h.tags.map c.args.tag c.in-Some.kept.now (sym c.in-Some.ensures)))
