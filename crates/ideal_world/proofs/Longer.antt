-- A world whose drivers have further operations makes the same steps, as long as none of them does such an operation.
use Rattle.std.proofs.Common.{◌≡◌, ℕ, zero, suc, ◌+◌, ◌*◌, true, false, not, ◌&&◌, ◌||◌, List, [], ◌∷◌, ◌++◌}
use Rattle.std.proofs.Common.{length, Option, Some, None, refl, ap, sym, ◌∙◌, map, nat_le, nat_lt, slice_get, slice_set}
use Rattle.std.proofs.Common.{subst, arith}
use Rattle.std.specs.List.{filter, list_any}
use Rattle.std.specs.Option.{option_map}
use Rattle.busdma_machine.specs.declared.bounce.hold.HubReply.{HubReply}
use Rattle.busdma_machine.specs.declared.bounce.hold.HubReply.TheVariants.{Nothing}
use Rattle.busdma_machine.specs.Bounce.Account.{fresh_account}
use Rattle.busdma_machine.specs.Bounce.AccountStep.{account_step}
use Rattle.busdma_base.specs.declared.journals.journal.Actor.{Actor}
use Rattle.busdma_base.specs.declared.journals.journal.JournalEntry.{JournalEntry}
use Rattle.busdma_base.specs.declared.journals.journal.Side.{Side}
use Rattle.busdma_base.specs.declared.journals.journal.Side.TheVariants as side
use Rattle.busdma_base.specs.declared.scenarios.scenario.Driver.{Driver}
use Rattle.busdma_base.specs.declared.scenarios.scenario.Scenario.{Scenario}
use Rattle.busdma_base.specs.declared.scenarios.script.Op.{Op}
use Rattle.busdma_base.specs.Scenarios.FrameRuns.{is_in}
use Rattle.busdma_base.specs.Scenarios.Opening.{free_below, is_owned, maxmem_of}
use Rattle.lane_agreement.specs.View.{Return}
use Rattle.ideal_lane.specs.Asking.{Asking, Gives, Asks, by_reply, goes_on}
use Rattle.ideal_lane.specs.Opening.{opening_lane}
use Rattle.ideal_lane.specs.Scripts.{LooksSame, is_below, is_ended, is_step_below, looks_same, turned_under}
use Rattle.ideal_lane.specs.Scripts.{with_script}
use Rattle.ideal_lane.specs.State.{LaneState}
use Rattle.ideal_lane.specs.Turns.{Turn, Turned, Stepped, Blocked, Ended, lane_step}
use Rattle.ideal_lane.proofs.Own.{turn-own}
use Rattle.ideal_lane.proofs.ScriptLaws.{turn-same}
use Rattle.ideal_lane.proofs.ScriptedRuns.{looks, looks-below}
use Rattle.ideal_world.specs.Legal.{Leads}
use Rattle.ideal_world.specs.Longer.{AreOfScripts, IsOfScript, More, drivers_with, lane_with, lanes_with, scenario_with}
use Rattle.ideal_world.specs.Longer.{world_with}
use Rattle.ideal_world.specs.World.{WorldState, WorldTurned, entry_of, opening_lanes, opening_world, replied, step}
use Rattle.ideal_world.specs.World.{step_entry, step_of, turned}
use Rattle.ideal_world.proofs.Lanes.{opening_at}
use Rattle.ideal_world.proofs.Turns.{each-step, own-step}

module _ (more : More) where
  -- ---- the drivers of a longer world

  at-lanes : (i : ℕ) (ls : List LaneState) (k : ℕ) →
      slice_get (lanes_with i more ls) k ≡ option_map (lane_with (more (i + k))) (slice_get ls k)
  at-lanes i [] k = refl
  at-lanes i (l ∷ ls) zero = let same : i ≡ i + 0 = omega arith in ap (λ n. Some (lane_with (more n) l)) same
  at-lanes i (l ∷ ls) (suc k) =
      let same : (i + 1) + k ≡ i + suc k = omega arith in
      at-lanes (i + 1) ls k ∙ ap (λ n. option_map (lane_with (more n)) (slice_get ls k)) same

  set-lanes : (i : ℕ) (ls : List LaneState) (k : ℕ) (x : LaneState) →
      slice_set (lanes_with i more ls) k (lane_with (more (i + k)) x) ≡ lanes_with i more (slice_set ls k x)
  set-lanes i [] k x = refl
  set-lanes i (l ∷ ls) zero x =
      let same : i + 0 ≡ i = omega arith in ap (λ n. lane_with (more n) x ∷ lanes_with (i + 1) more ls) same
  set-lanes i (l ∷ ls) (suc k) x =
      let same : i + suc k ≡ (i + 1) + k = omega arith in
      ap (λ n. lane_with (more i) l ∷ slice_set (lanes_with (i + 1) more ls) k (lane_with (more n) x)) same
      ∙ ap (λ t. lane_with (more i) l ∷ t) (set-lanes (i + 1) ls k x)

  at-here : (ls : List LaneState) (k : ℕ) →
      slice_get (lanes_with 0 more ls) k ≡ option_map (lane_with (more k)) (slice_get ls k)
  at-here ls k =
      let same : 0 + k ≡ k = omega arith in
      at-lanes 0 ls k ∙ ap (λ n. option_map (lane_with (more n)) (slice_get ls k)) same

  set-here : (ls : List LaneState) (k : ℕ) (x : LaneState) →
      slice_set (lanes_with 0 more ls) k (lane_with (more k) x) ≡ lanes_with 0 more (slice_set ls k x)
  set-here ls k x =
      let same : k ≡ 0 + k = omega arith in
      ap (λ n. slice_set (lanes_with 0 more ls) k (lane_with (more n) x)) same ∙ set-lanes 0 ls k x

  -- ---- one turn

  abbrev turned_with : WorldTurned → WorldTurned
  turned_with t = record { world = world_with more t.world; turn = t.turn }

  module _ (w : WorldState) (k : ℕ) (l : LaneState) where
    abbrev script : List Op
    script = l.script ++ more k

    turned-same : (a : _) (t : Turned) → t.lane.script ≡ l.script →
        turned (world_with more w) k a (turned_under script t) ≡ turned_with (turned w k a t)
    turned-same a t is =
        ap (λ s. record {
          world = record {
            lanes = slice_set (lanes_with 0 more w.lanes) k (with_script (s ++ more k) t.lane);
            account =
                a;
          };
          turn = t.turn;
        }) (sym is)
        ∙ ap (λ ls. record { world = record { lanes = ls; account = a }; turn = t.turn }) (set-here w.lanes k t.lane)

    -- the steps of a driver are the same with its further operations and without them
    replied-same : (x : Asking Turned) → ((r : HubReply) → (by_reply x r).lane.script ≡ l.script) →
        replied (world_with more w) k (lane_with (more k) l) (goes_on (turned_under script) x)
        ≡ turned_with (replied w k l x)
    replied-same (Gives t) h = turned-same w.account t (h Nothing)
    replied-same (Asks c f) h =
        let o = account_step l.id c w.account in turned-same o.account (f o.reply) (h o.reply)

  -- the turn of an actor whose driver looks at nothing after its script
  step-same : (w : WorldState) (actor : Actor) →
      ((l : LaneState) → slice_get w.lanes actor.lane.0 ≡ Some l → LooksSame actor.side (l.script ++ more actor.lane.0)
      l) →
      step (world_with more w) actor ≡ turned_with (step w actor)
  step-same w actor looks-same = by (slice_get w.lanes actor.lane.0) refl
    where
      k : ℕ
      k = actor.lane.0

      by : (q : Option LaneState) → slice_get w.lanes k ≡ q →
          step (world_with more w) actor ≡ turned_with (step w actor)
      by None e =
          ap (step_of (world_with more w) actor) (at-here w.lanes k ∙ ap (option_map (lane_with (more k))) e)
          ∙ sym (ap (λ q. turned_with (step_of w actor q)) e)
      by (Some l) e =
          ap (step_of (world_with more w) actor) (at-here w.lanes k ∙ ap (option_map (lane_with (more k))) e)
          ∙ (ap (replied (world_with more w) k (lane_with (more k) l))
          (turn-same (l.script ++ more k) l actor.side (looks-same l e))
          ∙ (replied-same w k l (lane_step l actor.side) (λ r. (turn-own l actor.side r).later.same_script)
          ∙ sym (ap (λ q. turned_with (step_of w actor q)) e)))

  -- the entry of a step is of a turn that does not find the end of the script
  unended : (t : Turn) (e : JournalEntry) → entry_of t ≡ Some e → is_ended t ≡ false
  unended (Stepped x) e h = refl
  unended Blocked e h = refl
  unended Ended e h = absurd (cc)

  below : (n : ℕ) (t : Turn) (e : JournalEntry) → entry_of t ≡ Some e → is_below n e.did ≡ true → is_step_below n t
      ≡ true
  below n (Stepped x) e h low = let same : x ≡ e = cc in ap (λ y. is_below n y.did) same ∙ low
  below n Blocked e h low = absurd (cc)
  below n Ended e h low = absurd (cc)

  -- ---- entries

  leads-longer : (w : WorldState) (es : List JournalEntry) (end : WorldState) → Leads w es end →
      Leads (world_with more w) es (world_with more end)
  leads-longer w [] end h = ap (world_with more) h
  leads-longer w (e ∷ es) end h =
      let same = step-same w e.actor (λ l there.
      let o = own-step w e.actor l there in
      looks l o.reply (more e.actor.lane.0) e.actor.side
      (ap is_ended (sym o.turn) ∙ unended (step w e.actor).turn e h.0)) in
      let entry : step_entry (world_with more w) e.actor ≡ Some e = ap (λ t. entry_of t.turn) same ∙ h.0 in (
        entry,
        subst (λ t. Leads t.world es (world_with more end)) (sym same)
            (leads-longer (step w e.actor).world es end h.1),
      )

  -- the scripts of a world's drivers are these drivers'
  record HasScript (ds : List Driver) (i : ℕ) (l : LaneState) : Type 0 where
    driver : Driver
    there : slice_get ds i ≡ Some driver
    script : l.script ≡ driver.script

  abbrev HaveScripts : List Driver → WorldState → Type 0
  HaveScripts ds w = (i : ℕ) (l : LaneState) → slice_get w.lanes i ≡ Some l → HasScript ds i l

  -- entries of only the shorter scripts that lead on from a longer world lead on from the shorter one
  record LeadsShorter (w : WorldState) (es : List JournalEntry) (end : WorldState) : Type 0 where
    last : WorldState
    leads : Leads w es last
    is : world_with more last ≡ end

  keep-scripts : (ds : List Driver) (w : WorldState) (actor : Actor) → HaveScripts ds w →
      HaveScripts ds (step w actor).world
  keep-scripts ds w actor have =
      each-step (HasScript ds) w actor
      (λ l o there.
      let h = have actor.lane.0 l there in
      record {
        driver = h.driver;
        there = h.there;
        script = (turn-own l actor.side o.reply).later.same_script ∙ h.script;
      })
      (λ j n off there. have j n there)

  module _ (s : Scenario) where
    step-shorter : (w : WorldState) (e : JournalEntry) → HaveScripts s.drivers w → IsOfScript s e →
        step_entry (world_with more w) e.actor ≡ Some e →
        step (world_with more w) e.actor ≡ turned_with (step w e.actor)
    step-shorter w e have low is = step-same w e.actor (λ l there. by l there)
      where
        k : ℕ
        k = e.actor.lane.0

        by : (l : LaneState) → slice_get w.lanes k ≡ Some l → LooksSame e.actor.side (l.script ++ more k) l
        by l there =
            let n : LaneState = lane_with (more k) l in
            let at : slice_get (world_with more w).lanes k ≡ Some n =
            at-here w.lanes k ∙ ap (option_map (lane_with (more k))) there in
            let o = own-step (world_with more w) e.actor n at in
            let h = have k l there in
            let step-low : is_step_below (length l.script) (by_reply (lane_step n e.actor.side) o.reply).turn ≡ true =
            ap (is_step_below (length l.script)) (sym o.turn)
            ∙ below (length l.script) (step (world_with more w) e.actor).turn e is
            (ap (λ s. is_below (length s) e.did) h.script ∙ low h.driver h.there) in
            turned-round e.actor.side l (looks-below n o.reply l.script (more k) refl e.actor.side step-low)
          where
            round : (rs : List Return) (s : Side) (l : LaneState) →
                looks_same s rs l.script (lane_with (more k) l) → looks_same s rs (l.script ++ more k) l
            round [] side.Script l q = sym q
            round (r ∷ rest) side.Script l q = tt
            round rs side.Transfer l q = tt
            round rs side.Callback l q = tt

            turned-round : (s : Side) (l : LaneState) →
                LooksSame s l.script (lane_with (more k) l) → LooksSame s (l.script ++ more k) l
            turned-round s l q = round l.returns s l q

    leads-shorter : (w : WorldState) (es : List JournalEntry) (end : WorldState) → HaveScripts s.drivers w →
        AreOfScripts s es → Leads (world_with more w) es end → LeadsShorter w es end
    leads-shorter w [] end have low h = record { last = w; leads = refl; is = h }
    leads-shorter w (e ∷ es) end have low h =
        let same = step-shorter w e have low.0 h.0 in
        let entry : step_entry w e.actor ≡ Some e = sym (ap (λ t. entry_of t.turn) same) ∙ h.0 in
        let on = leads-shorter (step w e.actor).world es end (keep-scripts s.drivers w e.actor have) low.1
        (subst (λ t. Leads t.world es end) same h.1) in
        record { last = on.last; leads = (entry, on.leads); is = on.is }

  -- ---- openings

  lanes-open : (i maxmem : ℕ) (ds : List Driver) →
      opening_lanes i maxmem (drivers_with i more ds) ≡ lanes_with i more (opening_lanes i maxmem ds)
  lanes-open i maxmem [] = refl
  lanes-open i maxmem (d ∷ ds) =
      ap (λ t. lane_with (more i) (opening_lane i maxmem d) ∷ t) (lanes-open (i + 1) maxmem ds)

  owned-same : (i : ℕ) (ds : List Driver) (f : ℕ) → is_owned (drivers_with i more ds) f ≡ is_owned ds f
  owned-same i [] f = refl
  owned-same i (d ∷ ds) f = ap (λ b. list_any (λ p. nat_le p.frame f && nat_lt f (p.frame + p.count)) d.pages || b)
      (owned-same (i + 1) ds f)

  free-same : (s : Scenario) (n : ℕ) → free_below (scenario_with more s) n ≡ free_below s n
  free-same s zero = refl
  free-same s (suc n) =
      (λ j. free-same s n j
      ++ filter (λ f. list_any (is_in f) s.frames && not (owned-same 0 s.drivers f j)) (n ∷ []))

  pub opens-longer : (s : Scenario) → opening_world (scenario_with more s) ≡ world_with more (opening_world s)
  opens-longer s =
      (λ j. record {
        lanes = lanes-open 0 (maxmem_of s.frames) s.drivers j;
        account = fresh_account (map (λ f. 4096 * f) (free-same s (maxmem_of s.frames) j)) (maxmem_of s.frames)
            s.max_bpages;
      })

  pub journals-longer : (s : Scenario) (es : List JournalEntry) (end : WorldState) → Leads (opening_world s) es end →
      Leads (opening_world (scenario_with more s)) es (world_with more end)
  journals-longer s es end h =
      subst (λ w. Leads w es (world_with more end)) (sym (opens-longer s)) (leads-longer (opening_world s) es end h)

  pub journals-shorter : (s : Scenario) (es : List JournalEntry) (end : WorldState) → AreOfScripts s es →
      Leads (opening_world (scenario_with more s)) es end →
      (last : WorldState) × Leads (opening_world s) es last × (world_with more last ≡ end)
  journals-shorter s es end low h =
      let on = leads-shorter s (opening_world s) es end opens low
      (subst (λ w. Leads w es end) (opens-longer s) h) in
      (on.last, on.leads, on.is)
    where
      opens : HaveScripts s.drivers (opening_world s)
      opens i l there =
          let o = opening_at 0 (maxmem_of s.frames) s.drivers i l there in
          record { driver = o.driver; there = o.there; script = ap (λ (k : LaneState). k.script) o.opens }
