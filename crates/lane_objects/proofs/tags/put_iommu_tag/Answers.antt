use Rattle.std.proofs.Common.{◌≡◌, ◌+◌, ◌/◌, false, Some, [], ap, sym, ◌∙◌, subst}
use Rattle.std.specs.FinMap.{get, insert}
use Rattle.busdma_base.specs.declared.journals.answer.Answer.TheVariants.{Done}
use Rattle.busdma_rules.specs.Iommu.Space.{Space}
use Rattle.ideal_lane.specs.Outcomes.{gives}
use Rattle.ideal_lane.specs.Tags.{with_space}
use Rattle.lane_state.specs.declared.kept.KeptTag.{KeptTag}
use Rattle.lane_state.specs.Awaiting.{AreAwaiting}
use Rattle.lane_state.specs.Ideal.{ideal_of}
use Rattle.lane_state.specs.Kept.{spaces_of, tag_of}
use Rattle.lane_state.specs.MapValues.{map_values}
use Rattle.lane_state.proofs.Awaiting.{awaiting-tag}
use Rattle.lane_state.proofs.MapValues.{map_values-insert}
use Rattle.lane_state.proofs.Spaces.{spaces-put}
use Rattle.lane_objects.proofs.tags.put_iommu_tag.Goals as goal

pub returns-clause-done : goal.returns-clause-done
returns-clause-done c =
    let h = c.args.holdings.now in
    let l = ideal_of h in
    let t : KeptTag = record { tag = c.args.tag; first_done = false; space = Some c.new-space.result } in
    let opened : Space = record { pages = (c.args.tag.lowaddr.0 + 1) / 4096; runs = [] } in
    let space : c.new-space.result ≡ opened =
    c.new-space.ensures ∙ ap (λ (x : _). record { pages = (x.lowaddr.0 + 1) / 4096; runs = [] })
    c.limits.ensures.limits in
    (λ i. gives (record l {
      tags = (ap (λ ts. map_values tag_of ts.map) c.put.ensures
          ∙ map_values-insert tag_of h.tags.map c.place-place.result t
          ∙ ap (λ p. insert l.tags p (tag_of t)) c.place-place.ensures) i;
      spaces = (ap (λ ts. spaces_of ts.map) c.put.ensures
          ∙ spaces-put h.tags.map c.place-place.result t
          ∙ (λ j. with_space (c.place-place.ensures j) (space j) l.spaces)) i;
    }) Done)

pub invariant_of-holdings-clause-awaiting : goal.invariant_of-holdings-clause-awaiting
invariant_of-holdings-clause-awaiting c =
    let h = c.args.holdings.now in
    let t : KeptTag = record { tag = c.args.tag; first_done = false; space = Some c.new-space.result } in
    subst (λ ts. AreAwaiting h.pages.now h.maxmem ts.map h.maps.map h.loans.prepared) (sym c.put.ensures)
    (awaiting-tag h.pages.now h.maxmem h.tags.map h.maps.map h.loans.prepared h.awaiting c.place-place.result t
    (ap (get h.tags.map) c.place-place.ensures ∙ c.requires.vacant))
