use Rattle.std.proofs.Common.{None, refl, ap, sym, ◌∙◌, subst}
use Rattle.std.specs.FinMap.{get, insert}
use Rattle.lane_state.specs.declared.kept.KeptTag.{KeptTag}
use Rattle.lane_state.specs.Ideal.{ideal_of}
use Rattle.lane_state.specs.Kept.{spaces_of, tag_of}
use Rattle.lane_state.specs.MapValues.{map_values}
use Rattle.lane_state.proofs.MapValues.{map_values-insert}
use Rattle.lane_state.proofs.Awaiting.{awaiting-tag}
use Rattle.lane_state.proofs.Spaces.{spaces-beside}
use Rattle.lane_state.specs.Awaiting.{AreAwaiting}
use Rattle.lane_objects.proofs.tags.put_tag.Goals as goal

pub returns-clause-done : goal.returns-clause-done
returns-clause-done c =
    let h = c.args.holdings.now in
    let l = ideal_of h in
    let t : KeptTag = record { tag = c.args.tag; first_done = c.args.first_done; space = None } in
    (λ i. record l {
      tags = (ap (λ ts. map_values tag_of ts.map) c.put.ensures
          ∙ map_values-insert tag_of h.tags.map c.place-place.result t
          ∙ ap (λ p. insert l.tags p (tag_of t)) c.place-place.ensures) i;
      spaces = (ap (λ ts. spaces_of ts.map) c.put.ensures
          ∙ spaces-beside h.tags.map c.place-place.result t
          (ap (get h.tags.map) c.place-place.ensures ∙ c.requires.vacant) refl) i;
    })

pub invariant_of-holdings-clause-awaiting : goal.invariant_of-holdings-clause-awaiting
invariant_of-holdings-clause-awaiting c =
    let h = c.args.holdings.now in
    let p = c.place-place.result in
    let t : KeptTag = record { tag = c.args.tag; first_done = c.args.first_done; space = None } in
    subst (λ ts. AreAwaiting h.pages.now h.maxmem ts.map h.maps.map h.loans.prepared) (sym c.put.ensures)
    (awaiting-tag h.pages.now h.maxmem h.tags.map h.maps.map h.loans.prepared h.awaiting p t
    (ap (get h.tags.map) c.place-place.ensures ∙ c.requires.vacant))
