use Rattle.std.proofs.Common.{ap, sym, ◌∙◌, subst}
use Rattle.ideal_lane.specs.Outcomes.{gives}
use Rattle.ideal_lane.specs.Tags.{tag}
use Rattle.lane_state.specs.Ideal.{ideal_of}
use Rattle.lane_state.specs.Kept.{tag_of}
use Rattle.lane_objects.specs.TagPlan.{IsPlan}
use Rattle.lane_state.proofs.MapValues.{image-none, image-some}
use Rattle.lane_objects.proofs.TagSteps.{tag-absent, tag-below}
use Rattle.lane_objects.proofs.tags.plan_tag.Goals as goal

pub returns-in_default-get : goal.returns-in_default-get
returns-in_default-get c =
    let l = ideal_of c.args.holdings.now in
    ap (λ p. tag p c.args.limits.now l) c.in-Some.is
    ∙ tag-absent l c.in-Some.place c.args.limits.now
    (image-none tag_of c.args.holdings.now.tags.map c.in-Some.place (sym c.in_default-get.ensures))
    ∙ ap (gives l) (sym c.report.ensures)

pub returns : goal.returns
returns c =
    let l = ideal_of c.args.holdings.now in
    let is = ap (λ p. tag p c.args.limits.now l) c.in-Some.is
    ∙ tag-below l c.in-Some.place c.args.limits.now (tag_of c.in-Some-get.kept.now)
    (image-some tag_of c.args.holdings.now.tags.map c.in-Some.place c.in-Some-get.kept.now
    (sym c.in-Some-get.ensures)) in
    subst (λ s. IsPlan l s c.plan_below-2.result) (sym is) c.plan_below-2.ensures
