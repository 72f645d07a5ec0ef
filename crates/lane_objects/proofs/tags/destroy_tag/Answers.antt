use Rattle.std.proofs.Common.{◌≡◌, Some, ap, sym, ◌∙◌, subst}
use Rattle.std.specs.FinMap.{get}
use Rattle.busdma_base.specs.declared.journals.answer.Answer.TheVariants.{Done}
use Rattle.ideal_lane.specs.Asking.{Gives}
use Rattle.ideal_lane.specs.Outcomes.{gives}
use Rattle.lane_state.specs.Ideal.{given, ideal_of}
use Rattle.lane_state.specs.Kept.{spaces_of, tag_of}
use Rattle.lane_state.specs.MapValues.{map_values}
use Rattle.lane_state.proofs.Keeping.{on-some}
use Rattle.lane_state.proofs.MapValues.{image-none, image-some, map_values-remove}
use Rattle.lane_objects.proofs.TagSteps.{destroy-absent, destroy-busy, destroy-done}
use Rattle.lane_state.proofs.Awaiting.{awaiting-untagged, none-tagged}
use Rattle.lane_state.proofs.Spaces.{spaces-cut}
use Rattle.lane_state.specs.Awaiting.{AreAwaiting}
use Rattle.lane_objects.proofs.tags.destroy_tag.Goals as goal

pub returns-in_default-clause-done : goal.returns-in_default-clause-done
returns-in_default-clause-done c =
    let h = c.args.holdings.now in
    ap (λ a. Gives (given h a)) c.report.ensures
    ∙ sym (destroy-absent (ideal_of h) c.args.tag (image-none tag_of h.tags.map c.args.tag (sym c.in_default.ensures)))

pub returns-then-has_maps-clause-done : goal.returns-then-has_maps-clause-done
returns-then-has_maps-clause-done c =
    let h = c.args.holdings.now in
    sym (destroy-busy (ideal_of h) c.args.tag (tag_of c.in-Some.field-0.now)
    (image-some tag_of h.tags.map c.args.tag c.in-Some.field-0.now (sym c.in-Some.ensures))
    (sym c.has_maps.ensures ∙ c.if-has_maps.true))

pub returns-clause-done : goal.returns-clause-done
returns-clause-done c =
    let h = c.args.holdings.now in
    let l = ideal_of h in
    let there : get h.tags.map c.args.tag ≡ Some c.in-Some.field-0.now = sym c.in-Some.ensures in
    let taken = on-some c.take.result c.in-Some.field-0.now (c.take.ensures.value ∙ there) c.take.ensures.taken in
    (λ i. gives (record l {
      tags = (ap (λ t. map_values tag_of t.map) taken ∙ map_values-remove tag_of h.tags.map c.args.tag) i;
      spaces = (ap (λ t. spaces_of t.map) taken ∙ spaces-cut h.tags.map c.args.tag) i;
    }) Done)
    ∙ sym (destroy-done l c.args.tag (tag_of c.in-Some.field-0.now)
    (image-some tag_of h.tags.map c.args.tag c.in-Some.field-0.now there)
    (sym c.has_maps.ensures ∙ c.if-has_maps.false))

pub invariant_of-holdings-clause-awaiting : goal.invariant_of-holdings-clause-awaiting
invariant_of-holdings-clause-awaiting c =
    let h = c.args.holdings.now in
    let there : get h.tags.map c.args.tag ≡ Some c.in-Some.field-0.now = sym c.in-Some.ensures in
    let taken = on-some c.take.result c.in-Some.field-0.now (c.take.ensures.value ∙ there) c.take.ensures.taken in
    subst (λ ts. AreAwaiting h.pages.now h.maxmem ts.map h.maps.map h.loans.prepared) (sym taken)
    (awaiting-untagged h.pages.now h.maxmem h.tags.map h.maps.map h.loans.prepared h.awaiting c.args.tag
    (none-tagged h.maps.map c.args.tag (sym c.has_maps.ensures ∙ c.if-has_maps.false)))
