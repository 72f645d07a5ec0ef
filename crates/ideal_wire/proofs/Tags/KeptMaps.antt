-- Each step but the making of a map keeps the zones of a driver's maps and what their tags say.
use Rattle.std.proofs.Common.{◌≡◌, ℕ, ◌==◌, Bool, true, false, cond, List, Option, Some, None, refl, ap, sym, ◌∙◌}
use Rattle.std.proofs.Common.{unwrap_or, option_map, ◌⊎◌, inl, inr}
use Rattle.std.proofs.lemmas.Bool.{eqb-true}
use Rattle.std.specs.FinMap.{get, insert, remove}
use Rattle.busdma_machine.specs.declared.bounce.hold.HubCall.TheVariants as call
use Rattle.busdma_machine.specs.declared.bounce.hold.HubReply.{HubReply}
use Rattle.busdma_machine.specs.declared.bounce.hold.HubReply.TheVariants as reply
use Rattle.busdma_base.specs.declared.journals.answer.Answer.TheVariants as answer
use Rattle.busdma_machine.specs.declared.tags.tag.TagLimits.{TagLimits}
use Rattle.lane_agreement.specs.View.{Return}
use Rattle.ideal_lane.specs.Loads.{limits_of, no_limits, staged}
use Rattle.ideal_lane.specs.Memories.{without_memory}
use Rattle.ideal_lane.specs.Outcomes.{Outcome}
use Rattle.ideal_lane.specs.Standing.{Stands}
use Rattle.ideal_lane.specs.State.{LaneState, LaneTag, LaneMap, Stage, Idle, Waiting, named}
use Rattle.ideal_lane.specs.Tags.{with_tag, tag, with_device_tag}
use Rattle.ideal_lane.specs.Unloads.{restaged, after_return}
use Rattle.ideal_lane.proofs.Effects.{Attaches, Creates, Frees, Loads, Makes, Maps, Operation, Overflows, Places}
use Rattle.ideal_lane.proofs.Effects.{Refuses, Same, Spaces, Tags, Touched, Touches, Unloads, Unmaps, Untags, Waits}
use Rattle.ideal_lane.proofs.Effects.{Work}
use Rattle.ideal_lane.proofs.Effects.{map_in, there_in, waits_for, was_in}
use Rattle.ideal_lane.proofs.Lookups.{get_put, get_cut}
use Rattle.ideal_wire.proofs.Tags.KeptTags.{KeepsTags, keeps-put, new-tag, says-in, untagged}
use Rattle.ideal_wire.proofs.Laid.Positions.{found_one}
use Rattle.busdma_machine.specs.declared.bounce.hold.HubCall.{HubCall}
use Rattle.busdma_machine.specs.declared.bounce.zone.Grown.{Grown}
use Rattle.busdma_base.specs.declared.scenarios.script.Op.TheVariants as op
use Rattle.ideal_lane.specs.Maps.{with_map}

-- a map with a zone is made
pub data IsCreated (l : LaneState) : Work → Option HubCall → HubReply → Outcome → Type 0 where
  Creation : (name : List ℕ) (t : ℕ) (g : LaneTag) → get l.tags t ≡ Some g → (n : Grown) →
      IsCreated l (Operation (op.Map name t))
      (Some (call.CreateMap (named l l.place) g.limits g.first_done)) (reply.Grown n) (record {
        lane = with_tag t g.limits true (with_map t (Some n.zone.0) l);
        answer = answer.Grown n;
      })

module _ (l : LaneState) (stands : Stands l) where
  -- each map that has a zone after a step had it before, and what its tag says stays
  pub record Was (l' : LaneState) (z : ℕ) (o : LaneMap) (m : ℕ) : Type 0 where
    pub map : LaneMap
    pub there : get l.maps m ≡ Some map
    pub zone : map.zone ≡ Some z
    pub limits : limits_of l' o ≡ limits_of l map

  abbrev pub KeepsMaps : LaneState → Type 0
  KeepsMaps l' = (m z : ℕ) (o : LaneMap) → get l'.maps m ≡ Some o → o.zone ≡ Some z → Was l' z o m

  pub same-maps : (l' : LaneState) → KeepsTags l l' → l'.maps ≡ l.maps → KeepsMaps l'
  same-maps l' tags maps m z o e zone =
      let there : get l.maps m ≡ Some o = sym (λ i. get (maps i) m) ∙ e in
      record { map = o; there = there; zone = zone; limits = ap (λ x. x.0) (tags m o there) }

  -- a map has another stage
  put-map : (l' : LaneState) → l'.tags ≡ l.tags → (n : ℕ) (o x : LaneMap) → get l.maps n ≡ Some o → x.tag ≡ o.tag →
      x.zone ≡ o.zone → l'.maps ≡ insert l.maps n x → KeepsMaps l'
  put-map l' tags n o x there tag zone maps m z y e has =
      by (m == n) refl (sym ((λ i. get (maps i) m) ∙ get_put l.maps n x m) ∙ e)
    where
      limits : (k j : LaneMap) → k.tag ≡ j.tag → limits_of l' k ≡ limits_of l j
      limits k j same = λ i. unwrap_or (option_map (λ (t : LaneTag). t.limits) (get (tags i) (same i))) no_limits

      by : (b : Bool) → (m == n) ≡ b → cond b (Some x) (get l.maps m) ≡ Some y → Was l' z y m
      by true t g =
          let same : x ≡ y = found_one (Some x) x y refl g in
          record {
            map = o;
            there = ap (get l.maps) (eqb-true m n t) ∙ there;
            zone = sym zone ∙ ap (λ (k : LaneMap). k.zone) same ∙ has;
            limits = limits y o (sym (ap (λ (k : LaneMap). k.tag) same) ∙ tag);
          }
      by false t g = record { map = y; there = g; zone = has; limits = limits y y refl }

  -- a map without zone comes
  pub new-map : (l' : LaneState) → l'.tags ≡ l.tags → (n : ℕ) (x : LaneMap) → x.zone ≡ None →
      l'.maps ≡ insert l.maps n x →
      KeepsMaps l'
  new-map l' tags n x none maps m z y e has =
      by (m == n) (sym ((λ i. get (maps i) m) ∙ get_put l.maps n x m) ∙ e)
    where
      by : (b : Bool) → cond b (Some x) (get l.maps m) ≡ Some y → Was l' z y m
      by true g =
          let same : x ≡ y = found_one (Some x) x y refl g in
          let gone : None ≡ Some z = sym none ∙ ap (λ (k : LaneMap). k.zone) same ∙ has in
          absurd (cc)
      by false g = record {
        map = y;
        there = g;
        zone = has;
        limits = λ i. unwrap_or (option_map (λ (t : LaneTag). t.limits) (get (tags i) y.tag)) no_limits;
      }

  cut-map : (l' : LaneState) → l'.tags ≡ l.tags → (n : ℕ) → l'.maps ≡ remove l.maps n → KeepsMaps l'
  cut-map l' tags n maps m z y e has =
      by (m == n) (sym ((λ i. get (maps i) m) ∙ get_cut l.maps n m) ∙ e)
    where
      by : (b : Bool) → cond b None (get l.maps m) ≡ Some y → Was l' z y m
      by true g = absurd (cc)
      by false g = record {
        map = y;
        there = g;
        zone = has;
        limits = λ i. unwrap_or (option_map (λ (t : LaneTag). t.limits) (get (tags i) y.tag)) no_limits;
      }

  -- ---- the effects that keep the maps
  alike : (l' : LaneState) → l'.tags ≡ l.tags → l'.maps ≡ l.maps → KeepsMaps l'
  alike l' tags maps =
      same-maps l'
      (λ n o e. λ i. says-in (get (tags i) o.tag)) maps

  pub same : KeepsMaps l
  same = alike l refl refl

  with_tag-kept : (t : TagLimits) (done : Bool) → KeepsMaps (with_tag l.place t done l)
  with_tag-kept t done =
      same-maps (with_tag l.place t done l)
      (keeps-put l stands (with_tag l.place t done l) l.place (record { limits = t; first_done = done; device = false })
      refl
      (λ g e. new-tag l stands g e)) refl

  iommu_tag-kept : (t : TagLimits) → KeepsMaps (with_device_tag t l)
  iommu_tag-kept t =
      same-maps (with_device_tag t l)
      (keeps-put l stands (with_device_tag t l) l.place (record { limits = t; first_done = false; device = true }) refl
      (λ g e. new-tag l stands g e)) refl

  module _ (m : ℕ) (o : LaneMap) (there : get l.maps m ≡ Some o) where
    staged-kept : (s : Stage) → KeepsMaps (staged m o s l)
    staged-kept s = put-map (staged m o s l) refl m o (record o { tried = true; stage = s }) there refl refl refl

  touches-kept : {d : Work} {x : Outcome} → Touches l d x → KeepsMaps x.lane
  touches-kept (Same a q u) = same
  touches-kept _ = alike _ refl refl

  -- all do but the making of a map with a zone
  pub makes-kept : {d : Work} {c : Option HubCall} {r : HubReply} {x : Outcome} → Makes l d c r x →
      (IsCreated l d c r x) ⊎ KeepsMaps x.lane
  makes-kept (Creates name t g there b n e) = inl (Creation name t g there n)
  makes-kept (Touched t) = inr (touches-kept t)
  makes-kept (Tags name parent limits t n) = inr (with_tag-kept t false)
  makes-kept (Attaches name parent limits t n b g e) = inr (with_tag-kept t true)
  makes-kept (Spaces name limits t e) = inr (iommu_tag-kept t)
  makes-kept (Untags t b) = inr (same-maps _ (untagged l t b) refl)
  makes-kept (Maps name t g there b) = inr (new-map (with_map t None l) refl l.place _ refl refl)
  makes-kept (Unmaps m o e i) = inr (cut-map (record l { maps = remove l.maps m }) refl m refl)
  makes-kept {x = x} (Places name t flags g there first count) = inr (new-map x.lane refl l.place _ refl refl)
  makes-kept (Frees m x there o found i) = inr (cut-map (without_memory m x l) refl m refl)
  makes-kept (Refuses b over e) = inr (staged-kept b.m b.o b.there Idle)
  makes-kept (Waits b plain some have) = inr (staged-kept b.m b.o b.there (Waiting (waits_for b)))
  makes-kept {x = x} (Loads k e) = inr (put-map x.lane refl (map_in k) (was_in k) _ (there_in k) refl refl refl)
  makes-kept {x = x} (Overflows k e) = inr (put-map x.lane refl (map_in k) (was_in k) _ (there_in k) refl refl refl)
  makes-kept {x = x} (Unloads m o e i) = inr (put-map x.lane refl m o _ e refl refl refl)
  makes-kept _ = inr (alike _ refl refl)

  -- ---- pages that go back
  pub back-kept : (x : Return) (rest : List Return) (y : Option LaneMap) → get l.maps x.map ≡ y →
      KeepsMaps (record (restaged x.map y (after_return x.map rest) l) { returns = rest })
  back-kept x rest None e = alike _ refl refl
  back-kept x rest (Some o) e = put-map _ refl x.map o (record o { stage = after_return x.map rest }) e refl refl refl
