use Rattle.std.proofs.Common.{◌≡◌, ◌==◌, ℕ, List, Some, None, true, false, is_some, length, refl, ap, sym, ◌∙◌}
use Rattle.std.proofs.Common.{unwrap_or, if◌then◌else◌}
use Rattle.std.specs.FinMap.{get, insert}
use Rattle.busdma_rules.specs.Iommu.Space.{Space, entered, first_free}
use Rattle.ideal_lane.specs.State.{no_space}
use Rattle.ideal_lane.specs.Tags.{with_space}
use Rattle.lane_state.specs.declared.kept.KeptTag.{KeptTag}
use Rattle.lane_loads.specs.DevicePages.{with_frames}
use Rattle.lane_state.specs.Ideal.{ideal_of}
use Rattle.lane_state.specs.Kept.{space_of, spaces_of, tag_of}
use Rattle.lane_state.specs.MapValues.{map_values}
use Rattle.lane_state.proofs.Awaiting.{awaiting-tag-again}
use Rattle.lane_state.proofs.Doors.{on-err}
use Rattle.lane_state.proofs.MapValues.{image-some, map_values-insert}
use Rattle.lane_state.proofs.Places.{put-back}
use Rattle.lane_state.proofs.Spaces.{spaces-put, spaces-same}
use Rattle.lane_loads.proofs.device_loads.enter_run.Goals as goal

pub invariant_of-holdings-in_default-space-clause-awaiting : goal.invariant_of-holdings-in_default-space-clause-awaiting
invariant_of-holdings-in_default-space-clause-awaiting c =
    let h = c.args.holdings.now in
    let t = c.in-Some.made.now in
    awaiting-tag-again h.pages.now h.maxmem h.tags.map h.maps.map h.loans.prepared h.awaiting c.args.tag t t
    (sym c.in-Some.ensures.value) refl

pub invariant_of-holdings-2-clause-awaiting : goal.invariant_of-holdings-2-clause-awaiting
invariant_of-holdings-2-clause-awaiting c =
    let h = c.args.holdings.now in
    let t = c.in-Some.made.now in
    let v : KeptTag = record { tag = t.tag; first_done = t.first_done; space = Some c.enter.new.self } in
    awaiting-tag-again h.pages.now h.maxmem h.tags.map h.maps.map h.loans.prepared h.awaiting c.args.tag v t
    (sym c.in-Some.ensures.value) refl

-- if no device page is reached, frames get no run
none-entered : (frames : List ℕ) → with_frames frames no_space ≡ no_space
none-entered frames = elim (length frames == 0)
    as (λ b. (if b then no_space else entered (first_free no_space (length frames)) frames no_space) ≡ no_space) [
      | true ↦ refl
      | false ↦ refl
    ]

pub returns-in_default-space-clause-done : goal.returns-in_default-space-clause-done
returns-in_default-space-clause-done c =
    let h = c.args.holdings.now in
    let l = ideal_of h in
    let k = c.args.tag in
    let frames = c.args.frames.now in
    let t : KeptTag = c.in-Some.made.now in
    let there : get h.tags.map k ≡ Some t = sym c.in-Some.ensures.value in
    let none : t.space ≡ None = cc in
    let here : l.spaces k ≡ no_space = ap space_of there ∙ ap (λ x. unwrap_or x no_space) none in
    let same : insert h.tags.map k t ≡ h.tags.map = put-back h.tags.map k t there in
    (λ i. record l {
      tags = map_values tag_of (same i);
      spaces = (ap spaces_of same ∙ sym (spaces-same l.spaces k (with_frames frames (l.spaces k))
          (here ∙ sym (ap (with_frames frames) here ∙ none-entered frames)))) i;
    })

pub returns-in_err-enter-clause-err : goal.returns-in_err-enter-clause-err
returns-in_err-enter-clause-err c =
    let h = c.args.holdings.now in
    let l = ideal_of h in
    let k = c.args.tag in
    let t : KeptTag = c.in-Some.made.now in
    let s : Space = c.in-Some-space.space in
    let there : get h.tags.map k ≡ Some t = sym c.in-Some.ensures.value in
    let is : t.space ≡ Some s = cc in
    let unchanged : c.enter.new.self ≡ s = c.in_err-enter.ensures.no_memory in
    let v : KeptTag = record { tag = t.tag; first_done = t.first_done; space = Some c.enter.new.self } in
    let alike : v ≡ t =
    (λ i. record { tag = t.tag; first_done = t.first_done; space = (ap (λ x. Some x) unchanged ∙ sym is) i }) in
    let same : insert h.tags.map k v ≡ h.tags.map = ap (insert h.tags.map k) alike ∙ put-back h.tags.map k t there in
    on-err c.from_residual.result
    (λ i. record l { tags = map_values tag_of (same i); spaces = spaces_of (same i) })

pub returns-clause-done : goal.returns-clause-done
returns-clause-done c =
    let h = c.args.holdings.now in
    let l = ideal_of h in
    let k = c.args.tag in
    let frames = c.args.frames.now in
    let t : KeptTag = c.in-Some.made.now in
    let s : Space = c.in-Some-space.space in
    let v : KeptTag = record { tag = t.tag; first_done = t.first_done; space = Some c.enter.new.self } in
    let there : get h.tags.map k ≡ Some t = sym c.in-Some.ensures.value in
    let is : t.space ≡ Some s = cc in
    let here : l.spaces k ≡ s = ap space_of there ∙ ap (λ x. unwrap_or x no_space) is in
    let alike : tag_of v ≡ tag_of t =
    (λ i. record { limits = t.tag; first_done = t.first_done; device = is_some (sym is i) }) in
    let some : (length frames == 0) ≡ false = sym c.is_empty.ensures ∙ c.if-is_empty.false in
    let taken : c.enter.new.self ≡ with_frames frames (l.spaces k) =
    c.in_ok-enter.ensures.entered
    ∙ ap (λ f. entered f frames s) c.in_ok-enter.ensures.first
    ∙ ap (λ (x : Space). entered (first_free x (length frames)) frames x) (sym here)
    ∙ sym (ap (λ b. if b then l.spaces k else entered (first_free (l.spaces k) (length frames)) frames (l.spaces k))
    some) in
    (λ i. record l {
      tags = (map_values-insert tag_of h.tags.map k v ∙ ap (insert l.tags k) alike
          ∙ put-back l.tags k (tag_of t) (image-some tag_of h.tags.map k t there)) i;
      spaces = (spaces-put h.tags.map k v ∙ ap (λ x. with_space k x l.spaces) taken) i;
    })
