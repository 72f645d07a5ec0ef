-- The address spaces of the tags that a driver keeps, as tags come, change and go.
use Rattle.std.proofs.Common.{◌≡◌, ℕ, ◌==◌, ◌&&◌, Bool, true, false, not, cond, Option, Some, None, is_some, refl, ap}
use Rattle.std.proofs.Common.{sym}
use Rattle.std.proofs.Common.{◌∙◌, if◌then◌else◌}
use Rattle.std.proofs.lemmas.Map.Views.{exact_unsigned_eq}
use Rattle.std.specs.FinMap.{FinMap, empty, get, get-empty, insert, remove}
use Rattle.std.specs.Option.{option_map_or}
use Rattle.std.specs.Ordering.{nat_cmp}
use Rattle.busdma_machine.specs.Tags.Tag.{could_bounce}
use Rattle.busdma_rules.specs.Iommu.Space.{Space}
use Rattle.ideal_lane.specs.Loads.{is_device}
use Rattle.ideal_lane.specs.Maps.{bounces}
use Rattle.ideal_lane.specs.State.{LaneMap, LaneTag, no_space}
use Rattle.ideal_lane.specs.Tags.{with_space}
use Rattle.ideal_lane.proofs.Lookups.{get_cut, get_put}
use Rattle.lane_state.specs.declared.holdings.Holdings.{Holdings}
use Rattle.lane_state.specs.declared.kept.KeptTag.{KeptTag}
use Rattle.lane_state.specs.Ideal.{ideal_of}
use Rattle.lane_state.specs.Kept.{space_of, spaces_of, tag_of}
use Rattle.lane_state.proofs.MapValues.{image-none, image-some}

-- ---- address spaces of tags

pub spaces-empty : spaces_of empty ≡ (λ k. no_space)
spaces-empty = λ i k. ap space_of (get-empty nat_cmp k) i

module _ (tags : FinMap nat_cmp KeptTag) (k : ℕ) where
  put-here : (t : KeptTag) (q : ℕ) (b : Bool) →
      space_of (cond b (Some t) (get tags q)) ≡ (if b then space_of (Some t) else spaces_of tags q)
  put-here t q true = refl
  put-here t q false = refl

  -- a tag is put
  pub spaces-put : (t : KeptTag) → spaces_of (insert tags k t) ≡ with_space k (space_of (Some t)) (spaces_of tags)
  spaces-put t = λ i q. (ap space_of (get_put tags k t q) ∙ put-here t q (q == k)) i

  cut-here : (q : ℕ) (b : Bool) →
      space_of (cond b None (get tags q)) ≡ (if b then no_space else spaces_of tags q)
  cut-here q true = refl
  cut-here q false = refl

  -- a tag has gone
  pub spaces-cut : spaces_of (remove tags k) ≡ with_space k no_space (spaces_of tags)
  spaces-cut = λ i q. (ap space_of (get_cut tags k q) ∙ cut-here q (q == k)) i

-- putting the address space of a tag in its own place changes nothing
pub spaces-same : (spaces : ℕ → Space) (k : ℕ) (s : Space) → spaces k ≡ s → with_space k s spaces ≡ spaces
spaces-same spaces k s is = λ i q. by q (q == k) refl i
  where
    by : (q : ℕ) (b : Bool) → (q == k) ≡ b → (if b then s else spaces q) ≡ spaces q
    by q true e = sym is ∙ ap spaces (sym (exact_unsigned_eq q k e))
    by q false e = refl

-- putting a tag without an address space at a place that had none changes no address space
pub spaces-beside : (tags : FinMap nat_cmp KeptTag) (k : ℕ) (t : KeptTag) → get tags k ≡ None → t.space ≡ None →
    spaces_of (insert tags k t) ≡ spaces_of tags
spaces-beside tags k t vacant none =
    spaces-put tags k t
    ∙ ap (λ o. with_space k (Rattle.std.proofs.Common.unwrap_or o no_space) (spaces_of tags)) none
    ∙ spaces-same (spaces_of tags) k no_space (ap space_of vacant)

-- ---- maps of IOMMU tags

-- a map's tag is an IOMMU tag if the tag has an address space
pub device-of : (h : Holdings) (o : LaneMap) (t : KeptTag) → get h.tags.map o.tag ≡ Some t →
    is_device (ideal_of h) o ≡ is_some t.space
device-of h o t there =
    ap (λ x. option_map_or (λ (t : LaneTag). t.device) x false) (image-some tag_of h.tags.map o.tag t there)

pub device-none : (h : Holdings) (o : LaneMap) → get h.tags.map o.tag ≡ None → is_device (ideal_of h) o ≡ false
device-none h o none =
    ap (λ x. option_map_or (λ (t : LaneTag). t.device) x false) (image-none tag_of h.tags.map o.tag none)

-- a tag whose maps could bounce has no address space
pub bounces-unspaced : (maxmem : ℕ) (t : KeptTag) → bounces maxmem (tag_of t) ≡ true → t.space ≡ None
bounces-unspaced maxmem t on = by t.space (could_bounce t.tag maxmem) on
  where
    by : (s : Option Space) (b : Bool) → (not (is_some s) && b) ≡ true → s ≡ None
    by None b h = refl
    by (Some s) b h = absurd (cc)
