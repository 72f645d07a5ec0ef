use Rattle.std.proofs.Common.{◌≡◌, Some, None, true, is_some, refl, ap, sym, ◌∙◌, subst, IfSome, unwrap_or}
use Rattle.std.specs.FinMap.{get, insert}
use Rattle.busdma_rules.specs.Iommu.Space.{Space, is_live, run_unmapped}
use Rattle.ideal_lane.specs.State.{no_space}
use Rattle.ideal_lane.specs.Tags.{with_space}
use Rattle.lane_state.specs.declared.kept.KeptTag.{KeptTag}
use Rattle.lane_state.specs.Ideal.{ideal_of}
use Rattle.lane_state.specs.Kept.{space_of, spaces_of, tag_of}
use Rattle.lane_state.specs.MapValues.{map_values}
use Rattle.lane_state.proofs.Awaiting.{awaiting-tag-again}
use Rattle.lane_state.proofs.MapValues.{image-some, map_values-insert}
use Rattle.lane_state.proofs.Places.{put-back}
use Rattle.lane_state.proofs.Spaces.{spaces-put, spaces-same}
use Rattle.lane_loads.proofs.unloads.leave_run.Goals as goal

pub leave-requires : goal.leave-requires
leave-requires c =
    let t = c.in-Some.made.now in
    let is : t.space ≡ Some c.in-Some-space.space = cc in
    subst (λ x. IfSome x (λ s. is_live s c.args.first ≡ true)) is (c.requires t (sym c.in-Some.ensures.value))

pub invariant_of-holdings-in-Some-space-clause-awaiting : goal.invariant_of-holdings-in-Some-space-clause-awaiting
invariant_of-holdings-in-Some-space-clause-awaiting c =
    let h = c.args.holdings.now in
    let t = c.in-Some.made.now in
    let v : KeptTag = record { tag = t.tag; first_done = t.first_done; space = Some c.leave.new.self } in
    awaiting-tag-again h.pages.now h.maxmem h.tags.map h.maps.map h.loans.prepared h.awaiting c.args.tag v t
    (sym c.in-Some.ensures.value) refl

pub invariant_of-holdings-in_default-space-clause-awaiting : goal.invariant_of-holdings-in_default-space-clause-awaiting
invariant_of-holdings-in_default-space-clause-awaiting c =
    let h = c.args.holdings.now in
    let t = c.in-Some.made.now in
    awaiting-tag-again h.pages.now h.maxmem h.tags.map h.maps.map h.loans.prepared h.awaiting c.args.tag t t
    (sym c.in-Some.ensures.value) refl

pub returns-in-Some-space-clause-done : goal.returns-in-Some-space-clause-done
returns-in-Some-space-clause-done c =
    let h = c.args.holdings.now in
    let l = ideal_of h in
    let k = c.args.tag in
    let t : KeptTag = c.in-Some.made.now in
    let s : Space = c.in-Some-space.space in
    let v : KeptTag = record { tag = t.tag; first_done = t.first_done; space = Some c.leave.new.self } in
    let there : get h.tags.map k ≡ Some t = sym c.in-Some.ensures.value in
    let is : t.space ≡ Some s = cc in
    let here : l.spaces k ≡ s = ap space_of there ∙ ap (λ x. unwrap_or x no_space) is in
    let alike : tag_of v ≡ tag_of t =
    (λ i. record { limits = t.tag; first_done = t.first_done; device = is_some (sym is i) }) in
    let ended : c.leave.new.self ≡ run_unmapped c.args.first (l.spaces k) =
    c.leave.ensures ∙ ap (run_unmapped c.args.first) (sym here) in
    (λ i. record l {
      tags = (map_values-insert tag_of h.tags.map k v ∙ ap (insert l.tags k) alike
          ∙ put-back l.tags k (tag_of t) (image-some tag_of h.tags.map k t there)) i;
      spaces = (spaces-put h.tags.map k v ∙ ap (λ x. with_space k x l.spaces) ended) i;
    })

pub returns-in_default-space-clause-done : goal.returns-in_default-space-clause-done
returns-in_default-space-clause-done c =
    let h = c.args.holdings.now in
    let l = ideal_of h in
    let k = c.args.tag in
    let t : KeptTag = c.in-Some.made.now in
    let there : get h.tags.map k ≡ Some t = sym c.in-Some.ensures.value in
    let none : t.space ≡ None = cc in
    let here : l.spaces k ≡ no_space = ap space_of there ∙ ap (λ x. unwrap_or x no_space) none in
    (λ i. record l {
      tags = ap (map_values tag_of) (put-back h.tags.map k t there) i;
      spaces = (ap spaces_of (put-back h.tags.map k t there)
          ∙ sym (spaces-same l.spaces k (run_unmapped c.args.first (l.spaces k))
          (here ∙ ap (run_unmapped c.args.first) (sym here)))) i;
    })
