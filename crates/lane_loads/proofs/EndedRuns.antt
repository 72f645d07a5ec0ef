-- The run of a load of an IOMMU tag's map is live; and what a call that ends it leaves of a driver.
use Rattle.std.proofs.Common.{◌≡◌, ◌⊎◌, ◌||◌, ◌==◌, ℕ, zero, suc, true, false, List, [], ◌∷◌, Option, Some, None}
use Rattle.std.proofs.Common.{refl, sym, ap, ◌∙◌, ◌≤◌, Bool, IfSome, slice_get, is_some, length, unwrap_or, subst}
use Rattle.std.proofs.Common.{arith}
use Rattle.std.proofs.Props.{props}
use mathlib.Core.Logic.{∥∥₁_elim}
use Rattle.std.proofs.lemmas.Bool.{eq-eqb}
use Rattle.std.specs.FinMap.{get}
use Rattle.std.specs.List.{Contains, list_any}
use Rattle.busdma_rules.specs.Iommu.Space.{AreSpaceRuns, DeviceRun, Space}
use Rattle.busdma_rules.specs.Iommu.Space.{begins_at, is_live, run_unmapped}
use Rattle.busdma_rules.proofs.Iommu.Members.{place-in}
use Rattle.phys_memory.specs.Memory.{wire}
use Rattle.ideal_lane.specs.Outcomes.{is_loaded}
use Rattle.ideal_lane.specs.State.{LaneMap, no_space}
use Rattle.ideal_lane.specs.Unloads.{first_of, segments_in}
use Rattle.ideal_wire.specs.Mapped.{AreMapped, HasRun}
use Rattle.ideal_wire.specs.Spaced.{AreSpaced}
use Rattle.ideal_wire.proofs.Devices.KeptMapped.{left-none}
use Rattle.lane_state.specs.declared.holdings.Holdings.{Holdings}
use Rattle.dma_map.specs.MapView as held
use Rattle.lane_state.specs.declared.kept.KeptLoad.{KeptLoad}
use Rattle.lane_state.specs.declared.kept.KeptTag.{KeptTag}
use Rattle.lane_state.specs.Changes.{KeepsButTags, KeepsBytesHeld, KeepsPromises}
use Rattle.lane_state.specs.Covered.{pages_due}
use Rattle.lane_state.specs.Held.{devices_of}
use Rattle.lane_state.specs.Ideal.{ideal_of}
use Rattle.lane_state.specs.Kept.{space_of, kept_stage, tag_of}
use Rattle.lane_state.proofs.MapValues.{image-some}
use Rattle.lane_state.proofs.Spaces.{device-of}

or-true : (a b : Bool) → b ≡ true → (a || b) ≡ true
or-true true b h = refl
or-true false b h = h

live-prop : (s : Space) (first : ℕ) → IsProp (is_live s first ≡ true)
live-prop s first = hlevel (props)

-- the run at an index of a list is live
live-at : (rs : List DeviceRun) (i : ℕ) (r : DeviceRun) → slice_get rs i ≡ Some r →
    list_any (begins_at r.first) rs ≡ true
live-at [] i r h = absurd (cc)
live-at (q ∷ qs) zero r h =
    let same : q ≡ r = cc in
    ap (λ b. b || list_any (begins_at r.first) qs) (eq-eqb q.first r.first (ap (λ (x : DeviceRun). x.first) same))
live-at (q ∷ qs) (suc i) r h = or-true (q.first == r.first) (list_any (begins_at r.first) qs) (live-at qs i r h)

live-in : (rs : List DeviceRun) (r : DeviceRun) → Contains rs r → list_any (begins_at r.first) rs ≡ true
live-in rs r h = let at = place-in rs r h in live-at rs at.0 r at.1

module _ (h : Holdings) (m : ℕ) (o : LaneMap) (there : get (ideal_of h).maps m ≡ Some o)
    (loaded : is_loaded o.stage ≡ true) where
  has-run : (t : KeptTag) (s : Space) → get h.tags.map o.tag ≡ Some t → t.space ≡ Some s → AreMapped (ideal_of h) →
      1 ≤ length (segments_in o.stage) → is_live s (first_of (segments_in o.stage)) ≡ true
  has-run t s found spaced mapped some =
      let run : HasRun ((ideal_of h).spaces o.tag) (segments_in o.stage) =
      (mapped.each m o there (device-of h o t found ∙ ap is_some spaced) loaded).run some in
      let here : (ideal_of h).spaces o.tag ≡ s =
      ap space_of found ∙ ap (λ x. unwrap_or x no_space) spaced in
      subst (λ x. is_live x (first_of (segments_in o.stage)) ≡ true) here
      (subst (λ p. is_live ((ideal_of h).spaces o.tag) p ≡ true) (sym run.first)
      (live-in ((ideal_of h).spaces o.tag).runs run.run run.live))

  -- the run of a load that has a segment is live
  pub run-live : (t : KeptTag) → get h.tags.map o.tag ≡ Some t → ∥ AreMapped (ideal_of h) ∥₁ →
      1 ≤ length (segments_in o.stage) → IfSome t.space (λ s. is_live s (first_of (segments_in o.stage)) ≡ true)
  run-live t found mapped some = by t.space refl
    where
      by : (x : Option Space) → t.space ≡ x →
          IfSome x (λ s. is_live s (first_of (segments_in o.stage)) ≡ true)
      by None e = tt
      by (Some s) e =
          ∥∥₁_elim mapped (live-prop s (first_of (segments_in o.stage))) (λ a. has-run t s found e a some)

-- no run begins at page 0
pub none-ends : (h : Holdings) (k : ℕ) → AreSpaced (ideal_of h) →
    run_unmapped 0 ((ideal_of h).spaces k) ≡ (ideal_of h).spaces k
none-ends h k spaced = by (get h.tags.map k) refl
  where
    spaced-at : (t : KeptTag) (x : Option Space) → get h.tags.map k ≡ Some t → t.space ≡ x →
        run_unmapped 0 (unwrap_or x no_space) ≡ unwrap_or x no_space
    spaced-at t None found e = refl
    spaced-at t (Some s) found e =
        let here : (ideal_of h).spaces k ≡ s = ap space_of found ∙ ap (λ x. unwrap_or x no_space) e in
        left-none s (subst (λ x. AreSpaceRuns 1 x.pages x.runs) here
        (spaced.each k (tag_of t) (image-some tag_of h.tags.map k t found) (ap is_some e)).runs)

    by : (t : Option KeptTag) → get h.tags.map k ≡ t → run_unmapped 0 (space_of t) ≡ space_of t
    by None found = refl
    by (Some t) found = spaced-at t t.space found refl

-- what an unload keeps after its run has ended
module _ (h k n : Holdings) (rest : KeepsButTags h k) where
  pub held-behind : KeepsBytesHeld k n → KeepsBytesHeld h n
  held-behind kept = record {
    own = kept.own ∙ ap (λ x. wire x.memory) rest.most.memory;
    pages = λ m. subst (λ t. ((devices_of n.maps.map m).pages ≡ (devices_of t.map m).pages)
        ⊎ ((devices_of n.maps.map m).pages ≡ [])) rest.maps (kept.pages m);
  }

  pub promises-behind : KeepsPromises k n → KeepsPromises h n
  promises-behind kept =
      let due = ap (λ t. pages_due t.map) rest.maps in
      let promised = ap (λ a. a.promised) rest.agenda in
      omega (arith, kept, due, promised)

-- the segments of a map in this state
pub segments-are : (s : held.HeldStage KeptLoad) → segments_in (kept_stage s) ≡ held.segments_of s
segments-are held.idle = refl
segments-are (held.waiting load_at callback room) = refl
segments-are (held.loaded bounced segments pages) = refl
segments-are (held.lent bounced segments frames) = refl
segments-are held.returning = refl
