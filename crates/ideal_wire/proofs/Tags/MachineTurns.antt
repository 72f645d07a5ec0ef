-- A step leaves a driver in its machine: its tags are effective ones.
use Rattle.std.proofs.Common.{◌≡◌, ℕ, ◌+◌, ◌*◌, ◌^◌, ◌≤◌, ◌==◌, Bool, true, false, cond, Option, Some, None, refl, sym}
use Rattle.std.proofs.Common.{◌∙◌, subst}
use Rattle.std.specs.FinMap.{get, insert, remove}
use Rattle.std.specs.List.{AllByRecursion}
use Rattle.busdma_machine.specs.declared.bounce.hold.HubReply.{HubReply}
use Rattle.busdma_machine.specs.declared.bounce.hold.HubReply.TheVariants as reply
use Rattle.busdma_base.specs.declared.journals.journal.Side.{Side}
use Rattle.busdma_machine.specs.declared.tags.tag.TagLimits.{TagLimits}
use Rattle.busdma_base.specs.Scenarios.Valid.{LoadsFrom}
use Rattle.busdma_machine.specs.Tags.Tag.{IsEffective, space_limits}
use Rattle.busdma_rules.specs.Tags.MemFlags.{coherent}
use Rattle.ideal_lane.specs.State.{LaneState, LaneTag, LaneMemory}
use Rattle.ideal_lane.specs.Asking.{by_reply}
use Rattle.ideal_lane.specs.Memories.{memory_by_reply, without_memory}
use Rattle.ideal_lane.specs.Outcomes.{Outcome}
use Rattle.ideal_lane.specs.Tags.{with_tag}
use Rattle.ideal_lane.specs.Turns.{Turned, lane_step}
use Rattle.ideal_lane.specs.Unloads.{restaged, after_return}
use Rattle.ideal_lane.proofs.Effects.{Advances, Attaches, Below, Calls, Creates, Frees, IsNew, Leaves, Makes, Places}
use Rattle.ideal_lane.proofs.Effects.{Releases, Same, Spaces, Stays, Steps, Tags, Top, Touched, Touches, Untags, Work}
use Rattle.ideal_lane.specs.Sends.{copied}
use Rattle.ideal_lane.proofs.Effects.{Declines, Keeps, Resends}
use Rattle.ideal_lane.proofs.Stepping.{turn-steps}
use Rattle.ideal_wire.proofs.Faithful.CopiedClusters.{copied-machine, copied-new}
use Rattle.ideal_lane.proofs.Lookups.{get_put, get_cut}
use Rattle.busdma_base.specs.Scenarios.PageRuns.{physical_in}
use Rattle.ideal_lane.specs.Sends.{HaveClusters}
use Rattle.ideal_wire.specs.Machine.{IsDueFine, IsOfMachine, IsInMachine}
use Rattle.ideal_wire.proofs.Loads.DueFine.{not-due, turn-due}
use Rattle.ideal_wire.specs.NewRuns.{BringsNew, IsNewRun}
use Rattle.ideal_wire.proofs.Tags.EffectiveTags.{effective-alone, effective-below}
use Rattle.busdma_machine.specs.declared.bounce.hold.HubCall.{HubCall}
use Rattle.busdma_machine.specs.declared.machine.address.Pa.{Pa}

-- a step that changes neither the machine nor a tag
like-of : (k j : LaneState) → IsInMachine k → j.maxmem ≡ k.maxmem → j.pages ≡ k.pages → j.script ≡ k.script →
    j.mems ≡ k.mems → j.tags ≡ k.tags → IsDueFine j → IsInMachine j
like-of k j h maxmem pages script mems tags due = record {
  numbered = subst (λ n. n ≤ 2 ^ 30) (sym maxmem) h.numbered;
  pages =
      subst (λ n. AllByRecursion (IsOfMachine n) j.pages) (sym maxmem)
      (subst (AllByRecursion (IsOfMachine k.maxmem)) (sym pages) h.pages);
  mems = λ i x e. subst (λ n. x.first + 4096 * x.count ≤ 4096 * n) (sym maxmem)
      (h.mems i x (sym (λ q. get (mems q) i) ∙ e));
  tags = λ i t e. h.tags i t (sym (λ q. get (tags q) i) ∙ e);
  bios =
      subst (λ ops. AllByRecursion (LoadsFrom j.pages) ops) (sym script)
      (subst (λ runs. AllByRecursion (LoadsFrom runs) k.script) (sym pages) h.bios);
  clusters = subst HaveClusters (sym script) h.clusters;
  unlike =
      subst (λ runs. (va vb pa : ℕ) → physical_in runs va ≡ Some pa → physical_in runs vb ≡ Some pa → va ≡ vb)
      (sym pages) h.unlike;
  due = due;
}

module _ (l : LaneState) (m : IsInMachine l) where
  -- the driver with no resend due
  abbrev rested : LaneState → LaneState
  rested k = record k { due = false }

  like : (k : LaneState) → k.maxmem ≡ l.maxmem → k.pages ≡ l.pages → k.script ≡ l.script → k.mems ≡ l.mems →
      k.tags ≡ l.tags → IsInMachine (rested k)
  like k maxmem pages script mems tags =
      like-of l (rested k) m maxmem pages script mems tags (not-due (rested k) refl)

  -- a step that puts a tag
  put : (k : LaneState) (at : ℕ) (t : LaneTag) → IsEffective t.limits → k.maxmem ≡ l.maxmem → k.pages ≡ l.pages →
      k.script ≡ l.script → k.mems ≡ l.mems → k.tags ≡ insert l.tags at t → IsInMachine (rested k)
  put k at t good maxmem pages script mems tags =
      let old = like (record k { tags = l.tags }) maxmem pages script mems refl in
      record {
        numbered = old.numbered;
        pages = old.pages;
        mems = old.mems;
        bios = old.bios;
        clusters = old.clusters;
        unlike = old.unlike;
        due = not-due (rested k) refl;
        tags = λ j x e. by j x (j == at) (sym (get_put l.tags at t j) ∙ (sym (λ i. get (tags i) j) ∙ e));
      }
    where
      by : (j : ℕ) (x : LaneTag) (b : Bool) → cond b (Some t) (get l.tags j) ≡ Some x → IsEffective x.limits
      by j x true e = let same : t ≡ x = Rattle.ideal_wire.proofs.Laid.Positions.found_one (Some t) t x refl e in
          subst (λ (y : LaneTag). IsEffective y.limits) same good
      by j x false e = m.tags j x e

  cut : (k : LaneState) (at : ℕ) → k.maxmem ≡ l.maxmem → k.pages ≡ l.pages → k.script ≡ l.script → k.mems ≡ l.mems →
      k.tags ≡ remove l.tags at → IsInMachine (rested k)
  cut k at maxmem pages script mems tags =
      let old = like (record k { tags = l.tags }) maxmem pages script mems refl in
      record {
        numbered = old.numbered;
        pages = old.pages;
        mems = old.mems;
        bios = old.bios;
        clusters = old.clusters;
        unlike = old.unlike;
        due = not-due (rested k) refl;
        tags = λ j x e. by j x (j == at) (sym (get_cut l.tags at j) ∙ (sym (λ i. get (tags i) j) ∙ e));
      }
    where
      by : (j : ℕ) (x : LaneTag) (b : Bool) → cond b None (get l.tags j) ≡ Some x → IsEffective x.limits
      by j x true e = absurd (cc)
      by j x false e = m.tags j x e

  -- a new tag is an effective one
  new-effective : {parent : Option ℕ} {limits t : TagLimits} → IsNew l parent limits t → IsEffective t
  new-effective (Top limits t e) = effective-alone limits t e
  new-effective (Below p x limits t there e) = effective-below x.limits limits t (m.tags p x there) e

  -- a reply brings no frames but new ones
  placed-keeps : (t flags : ℕ) (limits : TagLimits) (first : Pa) (count : ℕ) → IsNewRun l first.0 count →
      IsInMachine (rested (memory_by_reply t limits flags l (reply.Run first count)).lane)
  placed-keeps t flags limits first count new = record {
    numbered = m.numbered;
    pages = m.pages;
    mems = λ j x e. by j x (j == l.place) (sym (get_put l.mems l.place memory j) ∙ e);
    tags = m.tags;
    bios = m.bios;
    clusters = m.clusters;
    unlike = m.unlike;
    due = not-due _ refl;
  }
    where
      memory : LaneMemory
      memory = record { tag = t; first = first.0; count = count; len = limits.maxsize; coherent = coherent flags }

      by : (j : ℕ) (x : LaneMemory) (b : Bool) → cond b (Some memory) (get l.mems j) ≡ Some x →
          x.first + 4096 * x.count ≤ 4096 * l.maxmem
      by j x true e =
          let same : memory ≡ x = Rattle.ideal_wire.proofs.Laid.Positions.found_one (Some memory) memory x refl e in
          subst (λ (y : LaneMemory). y.first + 4096 * y.count ≤ 4096 * l.maxmem) same new.below
      by j x false e = m.mems j x e

  without-keeps : (n : ℕ) (x : LaneMemory) → IsInMachine (rested (without_memory n x l))
  without-keeps n x = record {
    numbered = m.numbered;
    pages = m.pages;
    mems = λ j y e. by j y (j == n) (sym (get_cut l.mems n j) ∙ e);
    tags = m.tags;
    bios = m.bios;
    clusters = m.clusters;
    unlike = m.unlike;
    due = not-due _ refl;
  }
    where
      by : (j : ℕ) (y : LaneMemory) (b : Bool) → cond b None (get l.mems j) ≡ Some y →
          y.first + 4096 * y.count ≤ 4096 * l.maxmem
      by j y true e = absurd (cc)
      by j y false e = m.mems j y e

  touches-keep : {d : Work} {x : Outcome} → Touches l d x → IsInMachine (rested x.lane)
  touches-keep (Same a q u) = like l refl refl refl refl refl
  touches-keep {x = x} _ = like x.lane refl refl refl refl refl

  makes-keep : {d : Work} {c : Option HubCall} {r : HubReply} {x : Outcome} → BringsNew l r → Makes l d c r x →
      IsInMachine (rested x.lane)
  makes-keep new (Touched t) = touches-keep t
  makes-keep new (Tags name parent limits t n) =
      put (with_tag l.place t false l) l.place (record { limits = t; first_done = false; device = false })
      (new-effective n) refl refl
      refl refl refl
  makes-keep new (Attaches name parent limits t n b g e) =
      put (with_tag l.place t true l) l.place (record { limits = t; first_done = true; device = false })
      (new-effective n) refl refl
      refl refl refl
  makes-keep {x = x} new (Spaces name limits t e) =
      put x.lane l.place (record { limits = t; first_done = false; device = true })
      (effective-alone (space_limits limits) t e) refl refl refl refl refl
  makes-keep {x = x} new (Untags t none) = cut x.lane t refl refl refl refl refl
  makes-keep {x = x} new (Creates name t g there b n e) =
      put x.lane t (record { limits = g.limits; first_done = true; device = false }) (m.tags t g there) refl refl refl
      refl refl
  makes-keep new (Places name t flags g there first count) = placed-keeps t flags g.limits first count new
  makes-keep new (Frees n x there o found i) = without-keeps n x
  makes-keep {x = x} new _ = like x.lane refl refl refl refl refl

-- ---- the turn
module _ (l : LaneState) (m : IsInMachine l) where
  steps-keep : {s : Side} {c : Option HubCall} {r : HubReply} {t : Turned} → BringsNew l r → Steps l s c r t →
      IsInMachine (rested l m t.lane)
  steps-keep new (Stays t is) = like l m l refl refl refl refl refl
  steps-keep new (Advances {x = x} o at free k) =
      like-of (rested l m x.lane) (rested l m (record x.lane { place = l.place + 1 })) (makes-keep l m new k) refl refl
      refl refl refl (not-due _ refl)
  steps-keep new (Keeps {x = x} o at free s is big held k) =
      like-of (rested l m x.lane) (rested l m (record x.lane { due = true })) (makes-keep l m new k) refl refl refl refl
      refl (not-due _ refl)
  steps-keep new (Declines s now x why) = like l m (record l { place = l.place + 1 }) refl refl refl refl refl
  steps-keep {r = r} new (Resends {x = x} s now c told k) =
      like-of (rested l m x.lane) (rested l m (record x.lane { place = l.place + 1 }))
      (makes-keep (copied s l) (copied-machine l s m) (copied-new l s r new) k) refl refl refl refl refl
      (not-due _ refl)
  steps-keep new (Leaves {x = x} q rest e t) =
      like-of (rested l m x.lane) (rested l m (record x.lane { queue = rest })) (touches-keep l m t) refl refl refl refl
      refl (not-due _ refl)
  steps-keep new (Releases q rest e None there) = like l m (record l { returns = rest }) refl refl refl refl refl
  steps-keep new (Releases q rest e (Some o) there) =
      like l m (record (restaged q.map (Some o) (after_return q.map rest) l) { returns = rest }) refl refl refl refl
      refl
  steps-keep new (Calls n pages k) = makes-keep l m new k

  pub turn-keeps : (s : Side) (r : HubReply) → BringsNew l r → IsInMachine (by_reply (lane_step l s) r).lane
  turn-keeps s r new =
      like-of (rested l m (by_reply (lane_step l s) r).lane) (by_reply (lane_step l s) r).lane
      (steps-keep new (turn-steps l s r)) refl refl refl refl refl (turn-due l m.due s r)
