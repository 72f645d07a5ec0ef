use Rattle.std.proofs.Common.{◌≡◌, Option, Some, true, is_some, refl, ap, sym, ◌∙◌, subst}
use Rattle.std.specs.FinMap.{get, insert}
use Rattle.busdma_rules.specs.Iommu.Space.{Space}
use Rattle.lane_state.specs.declared.kept.KeptTag.{KeptTag}
use Rattle.lane_state.specs.Ideal.{ideal_of}
use Rattle.lane_state.specs.Kept.{space_of, spaces_of, tag_of}
use Rattle.lane_state.specs.MapValues.{map_values}
use Rattle.lane_state.proofs.MapValues.{map_values-insert}
use Rattle.lane_state.proofs.Places.{reput, get_removed}
use Rattle.lane_state.proofs.Awaiting.{awaiting-tag-again}
use Rattle.lane_state.proofs.Spaces.{spaces-put, spaces-same}
use Rattle.lane_state.specs.Awaiting.{AreAwaiting}
use Rattle.lane_objects.proofs.maps.note_first.Goals as goal

pub put-requires-clause-vacant : goal.put-requires-clause-vacant
put-requires-clause-vacant c =
    ap (λ t. get t.map c.args.tag) c.in-Some.ensures.taken ∙ get_removed c.args.holdings.now.tags.map c.args.tag

pub returns-in-Some-clause-done : goal.returns-in-Some-clause-done
returns-in-Some-clause-done c t found none =
    let h = c.args.holdings.now in
    let l = ideal_of h in
    let k = c.args.tag in
    let v : KeptTag = record { tag = c.in-Some.kept.tag; first_done = true; space = c.in-Some.kept.space } in
    let was : Some c.in-Some.kept ≡ get h.tags.map k = sym c.in-Some.is ∙ c.take.ensures.value in
    let same : c.in-Some.kept ≡ t = cc in
    (λ i. record l {
      tags = (ap (λ ts. map_values tag_of ts.map) c.put.ensures
          ∙ ap (λ ts. map_values tag_of (insert ts.map k v)) c.in-Some.ensures.taken
          ∙ ap (map_values tag_of) (reput h.tags.map k v)
          ∙ map_values-insert tag_of h.tags.map k v
          ∙ ap (λ (x : KeptTag). insert l.tags k
          (record { limits = x.tag; first_done = true; device = is_some x.space }))
          same
          ∙ ap (λ (s : Option Space). insert l.tags k
          (record { limits = t.tag; first_done = true; device = is_some s }))
          none) i;
      spaces = (ap (λ ts. spaces_of ts.map) c.put.ensures
          ∙ ap (λ ts. spaces_of (insert ts.map k v)) c.in-Some.ensures.taken
          ∙ ap spaces_of (reput h.tags.map k v)
          ∙ spaces-put h.tags.map k v
          ∙ spaces-same l.spaces k (space_of (Some v)) (ap space_of (sym was))) i;
    })

pub invariant_of-holdings-clause-awaiting : goal.invariant_of-holdings-clause-awaiting
invariant_of-holdings-clause-awaiting c =
    let h = c.args.holdings.now in
    let k = c.args.tag in
    let t = c.in-Some.kept in
    let v : KeptTag = record { tag = t.tag; first_done = true; space = t.space } in
    let there : get h.tags.map k ≡ Some t = sym c.take.ensures.value ∙ c.in-Some.is in
    subst (λ ts. AreAwaiting h.pages.now h.maxmem ts h.maps.map h.loans.prepared)
    (sym (ap (λ ts. ts.map) c.put.ensures ∙ ap (λ ts. insert ts.map k v) c.in-Some.ensures.taken
    ∙ reput h.tags.map k v))
    (awaiting-tag-again h.pages.now h.maxmem h.tags.map h.maps.map h.loans.prepared h.awaiting k v t there refl)
