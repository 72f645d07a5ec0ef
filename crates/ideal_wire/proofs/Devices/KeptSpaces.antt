-- A step leaves the address spaces of a driver's IOMMU tags in order.
use Rattle.std.proofs.Common.{◌≡◌, ℕ, ◌+◌, ◌/◌, ◌^◌, ◌<◌, ◌≤◌, ◌==◌, ◌&&◌, Bool, true, false, cond, if◌then◌else◌}
use Rattle.std.proofs.Common.{List, [], ◌∷◌, length, map, Option, Some, None, refl, ap, sym, ◌∙◌, subst, zero, suc}
use Rattle.std.proofs.Common.{arith}
use Rattle.std.proofs.Common.{not}
use Rattle.std.proofs.lemmas.Bool.{and_parts, eqb-true, false≢true}
use Rattle.std.proofs.lemmas.List.Elements.{All-append, All-cons, All-nil}
use Rattle.std.specs.FinMap.{get, get-empty, insert, remove, empty}
use Rattle.std.specs.List.{All, AllByRecursion}
use Rattle.std.specs.Option.{option_map_or}
use Rattle.std.specs.Ordering.{nat_cmp}
use Rattle.busdma_machine.specs.declared.bounce.hold.HubCall.{HubCall}
use Rattle.busdma_machine.specs.declared.bounce.hold.HubReply.{HubReply}
use Rattle.busdma_base.specs.declared.journals.journal.Side.{Side}
use Rattle.busdma_machine.specs.declared.machine.address.Extent.{Extent}
use Rattle.busdma_machine.specs.declared.machine.chunk.Entry.{Entry}
use Rattle.busdma_base.specs.declared.scenarios.scenario.Driver.{Driver}
use Rattle.busdma_machine.specs.declared.tags.tag.SpaceLimits.{SpaceLimits}
use Rattle.busdma_machine.specs.declared.tags.tag.TagLimits.{TagLimits}
use Rattle.busdma_machine.specs.Machine.Entry.{IsEntry}
use Rattle.busdma_machine.specs.Machine.Spans.{bio_spans}
use Rattle.busdma_machine.specs.Runs.{IsExtent}
use Rattle.busdma_base.specs.Scenarios.Buffers.{IsBioOf}
use Rattle.busdma_machine.specs.Tags.Tag.{effective, is_accepted, rounded, space_limits}
use Rattle.busdma_machine.specs.Tags.TagFlags.{keep_pg_offset}
use Rattle.busdma_rules.specs.Iommu.Device.{load_frames}
use Rattle.busdma_rules.proofs.Iommu.Runs.{taken-fits, taken-gap}
use Rattle.busdma_rules.specs.Iommu.Space.{Space, entered, first_free, run_unmapped}
use Rattle.busdma_rules.proofs.Iommu.Runs.{gap-low, runs-left, runs-put}
use Rattle.busdma_rules.specs.Memory.Bios.{is_rounded}
use Rattle.busdma_rules.proofs.Memory.Vectors.{entries_are}
use Rattle.ideal_lane.specs.Asking.{by_reply}
use Rattle.ideal_lane.specs.Loads.{is_device, load_entries, load_translation, with_run}
use Rattle.ideal_lane.specs.Opening.{opening_lane}
use Rattle.ideal_lane.specs.Outcomes.{Outcome}
use Rattle.ideal_lane.specs.Standing.{Stands}
use Rattle.ideal_lane.specs.State.{LaneState, LaneTag, no_space}
use Rattle.ideal_lane.specs.Tags.{with_space, with_device_tag}
use Rattle.ideal_lane.specs.Turns.{Turned, lane_step}
use Rattle.ideal_lane.specs.Unloads.{first_of, segments_in}
use Rattle.ideal_lane.proofs.Effects.{Advances, Attaches, Begins, Calls, Creates, Device, Ends, IsTaken}
use Rattle.ideal_lane.proofs.Effects.{Leaves, Loads, Makes, NoFrame, Overflows, Releases, Run, Same, Spaces, Stays}
use Rattle.ideal_lane.proofs.Effects.{Steps, Tags, Touched, Touches, Unloads, Untags, Work, frames, spaces_in}
use Rattle.ideal_lane.proofs.Stepping.{turn-steps}
use Rattle.ideal_lane.proofs.Lookups.{get_put, get_cut}
use Rattle.ideal_wire.specs.Laid.{AreLaid}
use Rattle.ideal_wire.specs.Machine.{IsInMachine}
use Rattle.ideal_wire.specs.Spaced.{AreSpaced, IsSpaced, is_spaced}
use Rattle.ideal_wire.proofs.Loads.Bios.{bio-paged}
use Rattle.ideal_lane.specs.Sends.{copied}
use Rattle.ideal_lane.proofs.Effects.{Declines, Keeps, Resends}
use Rattle.ideal_wire.proofs.Loads.Begun.{Again, IsDone, Next, begun-bio}
use Rattle.ideal_wire.proofs.Faithful.CopiedClusters.{copied-laid, copied-machine, copied-spaced}
use Rattle.ideal_wire.proofs.Laid.Positions.{found_one}

-- ---- one space

left-spaced : (t : TagLimits) (s : Space) (first : ℕ) → IsSpaced t s → IsSpaced t (run_unmapped first s)
left-spaced t s first h = record {
  alignment = h.alignment;
  flags = h.flags;
  reached = h.reached;
  runs = runs-left 1 s.pages first s.runs h.runs;
}

entered-spaced : (t : TagLimits) (s : Space) (fs : List ℕ) (first : ℕ) → IsSpaced t s → 1 ≤ length fs →
    All (λ f. f < 2 ^ 30) fs → first_free s (length fs) ≡ Some first → IsSpaced t (entered (Some first) fs s)
entered-spaced t s fs first h some numbered e = record {
  alignment = h.alignment;
  flags = h.flags;
  reached = h.reached;
  runs =
      runs-put 1 s.pages (length fs) (record { first = first; frames = fs }) s.runs h.runs some
      (taken-gap s (length fs) first h.runs some e) refl (record {
        behind =
            omega (
              arith,
              gap-low 1 s.pages (length fs) s.runs h.runs,
              taken-gap s (length fs) first h.runs some e,
            );
        some = omega (arith, some);
        reached = taken-fits s (length fs) first h.runs some e;
        numbered = numbered;
      });
}

-- a new IOMMU tag has no run, and its device reaches the pages up to lowaddr
new-spaced : (s : SpaceLimits) (t : TagLimits) → effective None (space_limits s) ≡ Some t →
    IsSpaced t (record { pages = (t.lowaddr.0 + 1) / 4096; runs = [] })
new-spaced s t e = by (is_accepted (space_limits s)) e
  where
    by : (b : Bool) → (if b then Some (rounded (space_limits s)) else None) ≡ Some t →
        IsSpaced t (record { pages = (t.lowaddr.0 + 1) / 4096; runs = [] })
    by false h = absurd (cc)
    by true h =
        let is : rounded (space_limits s) ≡ t =
        found_one (Some (rounded (space_limits s))) (rounded (space_limits s)) t refl h in
        record {
          alignment = sym (ap (λ (q : TagLimits). q.alignment) is);
          flags = sym (ap (λ (q : TagLimits). keep_pg_offset q.flags) is);
          reached = omega arith;
          runs = tt;
        }

-- frames of entries are numbered
parts-numbered : (xs : List Extent) → AllByRecursion IsExtent xs → All (λ f. f < 2 ^ 30) (map (λ x. x.pa.0 / 4096) xs)
parts-numbered [] h = All-nil (λ f. f < 2 ^ 30)
parts-numbered (x ∷ xs) h =
    All-cons (λ f. f < 2 ^ 30) (x.pa.0 / 4096) (map (λ y. y.pa.0 / 4096) xs) (omega (arith, h.0.numbered))
    (parts-numbered xs h.1)

frames-numbered : (es : List Entry) → AllByRecursion IsEntry es → All (λ f. f < 2 ^ 30) (load_frames es)
frames-numbered [] h = All-nil (λ f. f < 2 ^ 30)
frames-numbered (e ∷ es) h =
    All-append (λ f. f < 2 ^ 30) (map (λ x. x.pa.0 / 4096) e.parts) (load_frames es)
    (parts-numbered e.parts h.0.extents) (frames-numbered es h.1)

some-frames : (n : ℕ) → (n == 0) ≡ false → 1 ≤ n
some-frames zero e = absurd (cc)
some-frames (suc n) e = omega arith

-- a tag that could bounce is not an IOMMU tag
unbehind : (device could : Bool) → (not device && could) ≡ true → device ≡ false
unbehind true could e = absurd (cc)
unbehind false could e = refl

-- a tag is an IOMMU tag
abbrev is-device : Option LaneTag → Bool
is-device q = option_map_or (λ (t : LaneTag). t.device) q false

module _ (l : LaneState) (stands : Stands l) (laid : AreLaid l) (machine : IsInMachine l) (spaced : AreSpaced l) where
  -- no tag and no space changes
  alike : (k : LaneState) → k.tags ≡ l.tags → k.spaces ≡ l.spaces → AreSpaced k
  alike k tags spaces = record {
    each =
        λ j t e device. subst (λ s. IsSpaced t.limits (s j)) (sym spaces)
        (spaced.each j t (sym (λ i. get (tags i) j) ∙ e) device);
    none = λ j off. (λ i. spaces i j) ∙ spaced.none j (sym (λ i. is-device (get (tags i) j)) ∙ off);
  }

  -- a tag that is not an IOMMU tag is put at a place without a tag
  plain-put : (at : ℕ) (g : LaneTag) → g.device ≡ false → is_spaced l at ≡ false → (k : LaneState) →
      k.tags ≡ insert l.tags at g → k.spaces ≡ l.spaces → AreSpaced k
  plain-put at g off was k tags spaces = record {
    each =
        λ j t e device. subst (λ s. IsSpaced t.limits (s j)) (sym spaces)
        (each j t device (j == at) (sym (get_put l.tags at g j) ∙ (sym (λ i. get (tags i) j) ∙ e)));
    none =
        λ j none. (λ i. spaces i j)
        ∙ empty-at j (j == at) refl
        (sym (ap is-device (get_put l.tags at g j)) ∙ (sym (λ i. is-device (get (tags i) j)) ∙ none));
  }
    where
      each : (j : ℕ) (t : LaneTag) → t.device ≡ true → (b : Bool) → cond b (Some g) (get l.tags j) ≡ Some t →
          IsSpaced t.limits (l.spaces j)
      each j t device true h =
          absurd
          (false≢true (sym off ∙ ap (λ (y : LaneTag). y.device) (found_one (Some g) g t refl h) ∙ device))
      each j t device false h = spaced.each j t h device

      empty-at : (j : ℕ) (b : Bool) → (j == at) ≡ b → is-device (cond b (Some g) (get l.tags j)) ≡ false →
          l.spaces j ≡ no_space
      empty-at j true e none = spaced.none j (ap (is_spaced l) (eqb-true j at e) ∙ was)
      empty-at j false e none = spaced.none j none

  -- a tag is put at the place of the script, at which nothing was made yet
  new-put : (g : LaneTag) → g.device ≡ false → (k : LaneState) → k.tags ≡ insert l.tags l.place g →
      k.spaces ≡ l.spaces → AreSpaced k
  new-put g off = plain-put l.place g off (ap is-device (stands.no_tag l.place (omega arith)))

  -- an IOMMU tag is made, whose space has no run
  module _ (t : TagLimits) (new : IsSpaced t (record { pages = (t.lowaddr.0 + 1) / 4096; runs = [] })) where
    abbrev made : LaneTag
    made = record { limits = t; first_done = false; device = true }

    iommu-tag : AreSpaced (with_device_tag t l)
    iommu-tag = record {
      each = λ j g e device. each j g device (j == l.place) (sym (get_put l.tags l.place made j) ∙ e);
      none = λ j off. empty-at j (j == l.place) (sym (ap is-device (get_put l.tags l.place made j)) ∙ off);
    }
      where
        each : (j : ℕ) (g : LaneTag) → g.device ≡ true → (b : Bool) → cond b (Some made) (get l.tags j) ≡ Some g →
            IsSpaced g.limits (if b then record { pages = (t.lowaddr.0 + 1) / 4096; runs = [] } else l.spaces j)
        each j g device true h =
            subst (λ (x : LaneTag). IsSpaced x.limits (record { pages = (t.lowaddr.0 + 1) / 4096; runs = [] }))
            (found_one (Some made) made g refl h) new
        each j g device false h = spaced.each j g h device

        empty-at : (j : ℕ) (b : Bool) → is-device (cond b (Some made) (get l.tags j)) ≡ false →
            (if b then record { pages = (t.lowaddr.0 + 1) / 4096; runs = [] } else l.spaces j) ≡ no_space
        empty-at j true off = absurd (cc)
        empty-at j false off = spaced.none j off

  untagged : (t : ℕ) → AreSpaced (record l { tags = remove l.tags t; spaces = with_space t no_space l.spaces })
  untagged t = record {
    each = λ j g e device. each j g device (j == t) (sym (get_cut l.tags t j) ∙ e);
    none = λ j off. empty-at j (j == t) (sym (ap is-device (get_cut l.tags t j)) ∙ off);
  }
    where
      each : (j : ℕ) (g : LaneTag) → g.device ≡ true → (b : Bool) → cond b None (get l.tags j) ≡ Some g →
          IsSpaced g.limits (if b then no_space else l.spaces j)
      each j g device true h = absurd (cc)
      each j g device false h = spaced.each j g h device

      empty-at : (j : ℕ) (b : Bool) → is-device (cond b None (get l.tags j)) ≡ false →
          (if b then no_space else l.spaces j) ≡ no_space
      empty-at j true off = refl
      empty-at j false off = spaced.none j off

  -- a run ends
  unloaded : (at first : ℕ) (k : LaneState) → k.tags ≡ l.tags →
      k.spaces ≡ with_space at (run_unmapped first (l.spaces at)) l.spaces → AreSpaced k
  unloaded at first k tags spaces = record {
    each =
        λ j t e device. subst (λ s. IsSpaced t.limits (s j)) (sym spaces)
        (each j t (spaced.each j t (sym (λ i. get (tags i) j) ∙ e) device) (j == at) refl);
    none =
        λ j off. (λ i. spaces i j)
        ∙ empty-at j (spaced.none j (sym (λ i. is-device (get (tags i) j)) ∙ off)) (j == at) refl;
  }
    where
      each : (j : ℕ) (t : LaneTag) → IsSpaced t.limits (l.spaces j) → (b : Bool) → (j == at) ≡ b →
          IsSpaced t.limits (if b then run_unmapped first (l.spaces at) else l.spaces j)
      each j t old true is =
          left-spaced t.limits (l.spaces at) first
          (subst (λ q. IsSpaced t.limits (l.spaces q)) (eqb-true j at is) old)
      each j t old false is = old

      empty-at : (j : ℕ) → l.spaces j ≡ no_space → (b : Bool) → (j == at) ≡ b →
          (if b then run_unmapped first (l.spaces at) else l.spaces j) ≡ no_space
      empty-at j old true is = ap (run_unmapped first) (ap l.spaces (sym (eqb-true j at is)) ∙ old)
      empty-at j old false is = old

  -- a run is taken, of an IOMMU tag's space
  taken-spaced : (kept : Bool) (at first : ℕ) (fs : List ℕ) → is_spaced l at ≡ true → 1 ≤ length fs →
      All (λ f. f < 2 ^ 30) fs → first_free (l.spaces at) (length fs) ≡ Some first → (k : LaneState) →
      k.tags ≡ l.tags → k.spaces ≡ with_run kept at first fs l.spaces → AreSpaced k
  taken-spaced kept at first fs device some numbered free k tags spaces = record {
    each =
        λ j t e on. subst (λ s. IsSpaced t.limits (s j)) (sym spaces)
        (each j t (spaced.each j t (sym (λ i. get (tags i) j) ∙ e) on) (kept && j == at) refl);
    none =
        λ j off. (λ i. spaces i j)
        ∙ empty-at j (sym (λ i. is-device (get (tags i) j)) ∙ off) (kept && j == at) refl;
  }
    where
      each : (j : ℕ) (t : LaneTag) → IsSpaced t.limits (l.spaces j) → (b : Bool) → (kept && j == at) ≡ b →
          IsSpaced t.limits (if b then entered (Some first) fs (l.spaces j) else l.spaces j)
      each j t old true is =
          entered-spaced t.limits (l.spaces j) fs first old some numbered
          (ap (λ q. first_free (l.spaces q) (length fs)) (eqb-true j at (and_parts kept (j == at) is).1) ∙ free)
      each j t old false is = old

      empty-at : (j : ℕ) → is_spaced l j ≡ false → (b : Bool) → (kept && j == at) ≡ b →
          (if b then entered (Some first) fs (l.spaces j) else l.spaces j) ≡ no_space
      empty-at j off true is =
          absurd
          (false≢true (sym off ∙ ap (is_spaced l) (eqb-true j at (and_parts kept (j == at) is).1) ∙ device))
      empty-at j off false is = spaced.none j off

  -- ---- a load that has its pages, or its run

  module _ {d : Work} (b : Begins l d) (at : IsDone l d) where
    is-bio : IsBioOf l.pages b.bio
    is-bio = begun-bio l machine b at

    numbered-in : All (λ f. f < 2 ^ 30) (frames b)
    numbered-in =
        frames-numbered (load_entries l b.bio)
        (entries_are (λ p. Unit {0}) (is_rounded b.bio) (load_translation l b.bio)
        (bio-paged l laid machine b.bio is-bio) (bio_spans b.bio))

    device-spaced : is_device l b.o ≡ true → (first : ℕ) (spaces : ℕ → Space) → IsTaken b first spaces →
        (k : LaneState) → k.tags ≡ l.tags → k.spaces ≡ spaces → AreSpaced k
    device-spaced device _ _ (NoFrame none) k tags spaces = alike k tags spaces
    device-spaced device _ _ (Run any first e) k tags spaces =
        taken-spaced _ b.o.tag first (frames b) device (some-frames (length (frames b)) any) numbered-in e k tags spaces

  ends-spaced : {d : Work} {c : Option HubCall} {r : HubReply} → IsDone l d → (e : Ends l d c r) → (k : LaneState) →
      k.tags ≡ l.tags → k.spaces ≡ spaces_in e → AreSpaced k
  ends-spaced at (Device b device first spaces taken) k tags same =
      device-spaced b at device first spaces taken k tags same
  ends-spaced at _ k tags same = alike k tags same

  -- ---- each effect
  pub touches-spaced : {d : Work} {x : Outcome} → Touches l d x → AreSpaced x.lane
  touches-spaced (Same a q u) = spaced
  touches-spaced {x = x} _ = alike x.lane refl refl

  makes-spaced : {d : Work} {c : Option HubCall} {r : HubReply} {x : Outcome} → IsDone l d → Makes l d c r x →
      AreSpaced x.lane
  makes-spaced at (Touched t) = touches-spaced t
  makes-spaced {x = x} at (Tags name parent limits t n) = new-put _ refl x.lane refl refl
  makes-spaced {x = x} at (Attaches name parent limits t n b g e) = new-put _ refl x.lane refl refl
  makes-spaced at (Spaces name limits t e) = iommu-tag t (new-spaced limits t e)
  makes-spaced at (Untags t none) = untagged t
  makes-spaced {x = x} at (Creates name t g there b n e) =
      plain-put t _ refl (ap is-device there ∙ unbehind g.device _ b) x.lane refl refl
  makes-spaced {x = x} at (Loads k e) = ends-spaced at k x.lane refl refl
  makes-spaced {x = x} at (Overflows k e) = ends-spaced at k x.lane refl refl
  makes-spaced {x = x} at (Unloads m o e i) = unloaded o.tag (first_of (segments_in o.stage)) x.lane refl refl
  makes-spaced {x = x} at _ = alike x.lane refl refl

-- ---- the turn
module _ (l : LaneState) (stands : Stands l) (laid : AreLaid l) (machine : IsInMachine l) (spaced : AreSpaced l) where
  steps-spaced : {s : Side} {c : Option HubCall} {r : HubReply} {t : Turned} → Steps l s c r t → AreSpaced t.lane
  steps-spaced (Stays t is) = spaced
  steps-spaced (Advances o at free m) =
      let k = makes-spaced l stands laid machine spaced (Next at) m in record { each = k.each; none = k.none }
  steps-spaced (Keeps o at free s is big held m) =
      let k = makes-spaced l stands laid machine spaced (Next at) m in record { each = k.each; none = k.none }
  steps-spaced {t = t} (Declines s now x why) = alike l stands laid machine spaced t.lane refl refl
  steps-spaced (Resends s now c told m) =
      let k =
      makes-spaced (copied s l) stands (copied-laid l s laid) (copied-machine l s machine) (copied-spaced l s spaced)
      (Again s) m in
      record { each = k.each; none = k.none }
  steps-spaced (Leaves q rest e t) =
      let k = touches-spaced l stands laid machine spaced t in record { each = k.each; none = k.none }
  steps-spaced {t = t} (Releases q rest e None there) = alike l stands laid machine spaced t.lane refl refl
  steps-spaced {t = t} (Releases q rest e (Some o) there) = alike l stands laid machine spaced t.lane refl refl
  steps-spaced (Calls m pages k) = makes-spaced l stands laid machine spaced (Next tt) k

  pub turn-spaced : (s : Side) (r : HubReply) → AreSpaced (by_reply (lane_step l s) r).lane
  turn-spaced s r = steps-spaced (turn-steps l s r)

-- at the opening there is no tag
pub opens-spaced : (id maxmem : ℕ) (driver : Driver) → AreSpaced (opening_lane id maxmem driver)
opens-spaced id maxmem driver = record {
  each =
      λ k t e device. let none : get (empty {X = LaneTag} {R = nat_cmp}) k ≡ None = get-empty nat_cmp k in
      absurd (cc);
  none = λ k off. refl;
}
