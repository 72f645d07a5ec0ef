-- The steps of a driver in a journal are a run of the driver, so the callback of each load is called at most once, and
-- each send is loaded and resent at most once.
use Rattle.std.proofs.Common.{◌≡◌, ◌≢◌, ℕ, ◌+◌, ◌≤◌, ◌==◌, ◌&&◌, Bool, true, false, List, [], ◌∷◌, Option, Some, None}
use Rattle.std.proofs.Common.{if◌then◌else◌, refl, sym, ap, ◌∙◌, arith, subst, slice_get}
use Rattle.std.proofs.lemmas.Bool.{eqb-true, eq-eqb, false≢true}
use Rattle.std.proofs.lemmas.List.Sums.{sum_by-cons}
use Rattle.busdma_base.specs.declared.journals.journal.Did.{Did}
use Rattle.busdma_base.specs.declared.scenarios.scenario.Driver.{Driver}
use Rattle.busdma_base.specs.declared.journals.journal.JournalEntry.{JournalEntry}
use Rattle.busdma_base.specs.declared.scenarios.scenario.Scenario.{Scenario}
use Rattle.busdma_base.specs.Scenarios.Opening.{maxmem_of}
use Rattle.ideal_lane.specs.Asking.{by_reply}
use Rattle.ideal_lane.specs.Callbacks.{calls, MadeStep as Made, IsRun}
use Rattle.ideal_lane.specs.Callbacks as own
use Rattle.ideal_lane.specs.State.{LaneState}
use Rattle.ideal_lane.specs.Turns.{Turn, Turned, Stepped, Blocked, Ended, lane_step}
use Rattle.ideal_lane.specs.Opening.{opening_lane}
use Rattle.ideal_lane.specs.Resends as runs
use Rattle.ideal_lane.specs.Resends.{is_operation, is_resend}
use Rattle.ideal_lane.proofs.Calling.{called-once}
use Rattle.ideal_lane.proofs.Resent.{operation-once, resend-once}
use Rattle.ideal_world.specs.Callbacks.{entry_calls, times_called}
use Rattle.ideal_world.specs.Legal.{Leads}
use Rattle.ideal_world.specs.Resends.{entry_does, times_done}
use Rattle.ideal_world.specs.World.{WorldState, step, step_of, entry_of, step_entry, opening_world}
use Rattle.ideal_world.proofs.Lanes.{opening_at}
use Rattle.ideal_world.proofs.Turns.{OwnStep, own-step, other-step, still}

-- the entries follow a run of this driver: it calls a callback as often as they do, and does what a test chooses as
-- often as they do
record Follows (i p : ℕ) (chosen : Did → Bool) (w : WorldState) (es : List JournalEntry) (l : LaneState) : Type 0 where
  made : List Made
  run : IsRun l made
  times : times_called i p w es ≡ own.times_called_in_run p l made
  done : times_done chosen i es ≡ runs.times_done_in_run chosen made

-- a turn that is a step calls the callback that its entry calls
counted : (p : ℕ) (l : LaneState) (t : Turn) (e : JournalEntry) → entry_of t ≡ Some e →
    own.turn_calls p l t ≡ (if calls p l e.did e.answer then 1 else 0)
counted p l (Stepped entry) e h =
    let same : entry ≡ e = cc in ap (λ (x : JournalEntry). if calls p l x.did x.answer then 1 else 0) same
counted p l Blocked e h = absurd (cc)
counted p l Ended e h = absurd (cc)

-- a turn that is a step does what its entry did
did-counted : (chosen : Did → Bool) (t : Turn) (e : JournalEntry) → entry_of t ≡ Some e →
    runs.turn_does chosen t ≡ (if chosen e.did then 1 else 0)
did-counted chosen (Stepped entry) e h =
    let same : entry ≡ e = cc in ap (λ (x : JournalEntry). if chosen x.did then 1 else 0) same
did-counted chosen Blocked e h = absurd (cc)
did-counted chosen Ended e h = absurd (cc)

-- no entry is of a driver that is not there
nobody : (i p : ℕ) (w : WorldState) (es : List JournalEntry) (end : WorldState) → Leads w es end →
    slice_get w.lanes i ≡ None → times_called i p w es ≡ 0
nobody i p w [] end h none = refl
nobody i p w (e ∷ es) end h none =
    let first : entry_calls i p e (slice_get w.lanes i) ≡ 0 = ap (entry_calls i p e) none in
    omega (arith, first, nobody i p (step w e.actor).world es end h.1 (still w e.actor i none))

nobody-did : (i : ℕ) (chosen : Did → Bool) (w : WorldState) (es : List JournalEntry) (end : WorldState) →
    Leads w es end → slice_get w.lanes i ≡ None → times_done chosen i es ≡ 0
nobody-did i chosen w [] end h none = refl
nobody-did i chosen w (e ∷ es) end h none =
    let first : entry_does chosen i e ≡ 0 = by (e.actor.lane.0 == i) refl in
    omega (
      arith,
      sum_by-cons (λ x. entry_does chosen i x) e es,
      first,
      nobody-did i chosen (step w e.actor).world es end h.1 (still w e.actor i none),
    )
  where
    by : (b : Bool) → (e.actor.lane.0 == i) ≡ b → ◌≡◌ {A = ℕ} (if b && chosen e.did then 1 else 0) 0
    by false q = refl
    by true q =
        let gone : None ≡ Some e =
        sym (ap (λ o. entry_of (step_of w e.actor o).turn)
        (ap (slice_get w.lanes) (eqb-true e.actor.lane.0 i q) ∙ none)) ∙ h.0 in
        absurd (cc)

module _ (i p : ℕ) (chosen : Did → Bool) where
  -- an entry of the driver
  mine : (w : WorldState) (e : JournalEntry) (es : List JournalEntry) (l : LaneState) (o : OwnStep w e.actor l) →
      step_entry w e.actor ≡ Some e → slice_get w.lanes i ≡ Some l → (e.actor.lane.0 == i) ≡ true →
      Follows i p chosen (step w e.actor).world es (by_reply (lane_step l e.actor.side) o.reply).lane →
      Follows i p chosen w (e ∷ es) l
  mine w e es l o is there q f =
      let t : Turned = by_reply (lane_step l e.actor.side) o.reply in
      let entry : entry_calls i p e (Some l) ≡ (if calls p l e.did e.answer then 1 else 0) =
      ap (λ b. if b && calls p l e.did e.answer then 1 else 0) q in
      let first : entry_calls i p e (slice_get w.lanes i) ≡ own.turn_calls p l t.turn =
      ap (entry_calls i p e) there ∙ (entry ∙ sym (counted p l t.turn e (sym (ap entry_of o.turn) ∙ is))) in
      let did : entry_does chosen i e ≡ runs.turn_does chosen t.turn =
      ap (λ b. if b && chosen e.did then 1 else 0) q
      ∙ sym (did-counted chosen t.turn e (sym (ap entry_of o.turn) ∙ is)) in
      record {
        made = record { side = e.actor.side; reply = o.reply; turned = t } ∷ f.made;
        run = (refl, f.run);
        times = omega (arith, first, f.times);
        done =
            omega (
              arith,
              sum_by-cons (λ x. entry_does chosen i x) e es,
              sum_by-cons (λ (m : Made). runs.turn_does chosen m.turned.turn)
                  (record { side = e.actor.side; reply = o.reply; turned = t }) f.made,
              did,
              f.done,
            );
      }

  -- an entry of another driver
  others : (w : WorldState) (e : JournalEntry) (es : List JournalEntry) (l : LaneState) →
      slice_get w.lanes i ≡ Some l → (e.actor.lane.0 == i) ≡ false → Follows i p chosen (step w e.actor).world es l →
      Follows i p chosen w (e ∷ es) l
  others w e es l there q f =
      let first : entry_calls i p e (slice_get w.lanes i) ≡ 0 =
      ap (entry_calls i p e) there ∙ ap (λ b. if b && calls p l e.did e.answer then 1 else 0) q in
      let did : entry_does chosen i e ≡ 0 = ap (λ b. if b && chosen e.did then 1 else 0) q in
      record {
        made = f.made;
        run = f.run;
        times = omega (arith, first, f.times);
        done = omega (arith, sum_by-cons (λ x. entry_does chosen i x) e es, did, f.done);
      }

  follows : (w : WorldState) (es : List JournalEntry) (end : WorldState) (l : LaneState) → Leads w es end →
      slice_get w.lanes i ≡ Some l → Follows i p chosen w es l
  follows w [] end l h there = record { made = []; run = tt; times = refl; done = refl }
  follows w (e ∷ es) end l h there =
      by (e.actor.lane.0 == i) refl (λ m at. follows (step w e.actor).world es end m h.1 at)
    where
      by : (b : Bool) → (e.actor.lane.0 == i) ≡ b →
          ((m : LaneState) → slice_get (step w e.actor).world.lanes i ≡ Some m →
          Follows i p chosen (step w e.actor).world es m) → Follows i p chosen w (e ∷ es) l
      by true q next =
          let at : e.actor.lane.0 ≡ i = eqb-true e.actor.lane.0 i q in
          let o = own-step w e.actor l (ap (slice_get w.lanes) at ∙ there) in
          let on = next (by_reply (lane_step l e.actor.side) o.reply).lane
          (sym (ap (slice_get (step w e.actor).world.lanes) at) ∙ o.there) in
          mine w e es l o h.0 there q on
      by false q next =
          let off : i ≢ e.actor.lane.0 =
          (λ same. false≢true (sym q ∙ eq-eqb e.actor.lane.0 i (sym same))) in
          others w e es l there q (next l (other-step w e.actor i off ∙ there))

pub called-at-most-once : (s : Scenario) (es : List JournalEntry) (end : WorldState) (i p : ℕ) →
    Leads (opening_world s) es end → times_called i p (opening_world s) es ≤ 1
called-at-most-once s es end i p h = by (slice_get (opening_world s).lanes i) refl
  where
    by : (o : Option LaneState) → slice_get (opening_world s).lanes i ≡ o → times_called i p (opening_world s) es ≤ 1
    by None e = let none = nobody i p (opening_world s) es end h e in omega (arith, none)
    by (Some l) e =
        let f = follows i p (is_operation p) (opening_world s) es end l h e in
        let o = opening_at 0 (maxmem_of s.frames) s.drivers i l e in
        let run = subst (λ k. IsRun k f.made) o.opens f.run in
        let once = called-once p (0 + i) (maxmem_of s.frames) o.driver f.made run in
        let same = ap (λ k. own.times_called_in_run p k f.made) o.opens in
        omega (arith, f.times, once, same)

-- what each run of a driver does at most once, its entries do at most once
module _ (chosen : Did → Bool) (once : (id maxmem : ℕ) (driver : Driver) (made : List Made) →
    IsRun (opening_lane id maxmem driver) made → runs.times_done_in_run chosen made ≤ 1) where
  done-at-most-once : (s : Scenario) (es : List JournalEntry) (end : WorldState) (i : ℕ) →
      Leads (opening_world s) es end → times_done chosen i es ≤ 1
  done-at-most-once s es end i h = by (slice_get (opening_world s).lanes i) refl
    where
      by : (o : Option LaneState) → slice_get (opening_world s).lanes i ≡ o → times_done chosen i es ≤ 1
      by None e = let none = nobody-did i chosen (opening_world s) es end h e in omega (arith, none)
      by (Some l) e =
          let f = follows i 0 chosen (opening_world s) es end l h e in
          let o = opening_at 0 (maxmem_of s.frames) s.drivers i l e in
          let most = once (0 + i) (maxmem_of s.frames) o.driver f.made (subst (λ k. IsRun k f.made) o.opens f.run) in
          omega (arith, f.done, most)

pub loaded-at-most-once : (s : Scenario) (es : List JournalEntry) (end : WorldState) (i p : ℕ) →
    Leads (opening_world s) es end → times_done (is_operation p) i es ≤ 1
loaded-at-most-once s es end i p = done-at-most-once (is_operation p) (operation-once p) s es end i

pub resent-at-most-once : (s : Scenario) (es : List JournalEntry) (end : WorldState) (i p : ℕ) →
    Leads (opening_world s) es end → times_done (is_resend p) i es ≤ 1
resent-at-most-once s es end i p = done-at-most-once (is_resend p) (resend-once p) s es end i
