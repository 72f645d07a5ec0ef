-- A step whose answer is a report leaves the world as it was, but for its driver's place or queue.
use Rattle.std.proofs.Common.{◌≡◌, ℕ, true, Some, None, refl, sym, ap, ◌∙◌, subst, slice_get, slice_set}
use Rattle.busdma_machine.specs.declared.bounce.hold.HubReply.{HubReply}
use Rattle.busdma_machine.specs.declared.bounce.hold.HubReply.TheVariants.{Nothing}
use Rattle.busdma_machine.specs.Bounce.AccountStep.{account_step}
use Rattle.busdma_base.specs.declared.journals.journal.Actor.{Actor}
use Rattle.busdma_base.specs.declared.journals.journal.JournalEntry.{JournalEntry}
use Rattle.busdma_base.specs.declared.journals.journal.Side.{Side}
use Rattle.busdma_base.specs.Journals.Reports.{is_report}
use Rattle.ideal_lane.specs.Asking.{Asking, Gives, Asks, by_reply, call_of}
use Rattle.ideal_lane.specs.Reported.{gone_on, is_reported}
use Rattle.ideal_lane.specs.State.{LaneState}
use Rattle.ideal_lane.specs.Turns.{Turn, Turned, Stepped, Blocked, Ended, lane_step}
use Rattle.ideal_lane.proofs.Reported.{turn-report}
use Rattle.ideal_world.specs.World.{WorldState, WorldTurned, entry_of, replied, step, step_entry, step_of}

told : (t : Turn) (e : JournalEntry) → entry_of t ≡ Some e → is_report e.answer ≡ true → is_reported t ≡ true
told (Stepped f) e is report =
    let same : f ≡ e = cc in subst (λ (x : JournalEntry). is_report x.answer ≡ true) (sym same) report
told Blocked e is report = absurd (cc)
told Ended e is report = absurd (cc)

-- the world whose driver has gone on
abbrev on : WorldState → ℕ → LaneState → Side → WorldState
on w i l s = record w { lanes = slice_set w.lanes i (gone_on s l) }

driver-reports : (w : WorldState) (i : ℕ) (l : LaneState) (s : Side) (e : JournalEntry) →
    entry_of (replied w i l (lane_step l s)).turn ≡ Some e → is_report e.answer ≡ true →
    (replied w i l (lane_step l s)).world ≡ on w i l s
driver-reports w i l s e is report = by (lane_step l s) refl is
  where
    by : (x : Asking Turned) → lane_step l s ≡ x → entry_of (replied w i l x).turn ≡ Some e →
        (replied w i l x).world ≡ on w i l s
    by (Gives t) here h =
        let reported : is_reported (by_reply (lane_step l s) Nothing).turn ≡ true =
        ap (λ (y : Asking Turned). is_reported (by_reply y Nothing).turn) here ∙ told t.turn e h report in
        ap (λ m. record w { lanes = slice_set w.lanes i m })
        (sym (ap (λ (y : Asking Turned). (by_reply y Nothing).lane) here) ∙ (turn-report l s Nothing reported).lane)
    by (Asks c k) here h =
        let r : HubReply = (account_step l.id c w.account).reply in
        let reported : is_reported (by_reply (lane_step l s) r).turn ≡ true =
        ap (λ (y : Asking Turned). is_reported (by_reply y r).turn) here ∙ told (k r).turn e h report in
        let none : Some c ≡ None = sym (ap call_of here) ∙ (turn-report l s r reported).call in
        absurd (cc)

pub world-reports : (w : WorldState) (actor : Actor) (l : LaneState) (e : JournalEntry) →
    slice_get w.lanes actor.lane.0 ≡ Some l → step_entry w actor ≡ Some e → is_report e.answer ≡ true →
    (step w actor).world ≡ record w { lanes = slice_set w.lanes actor.lane.0 (gone_on actor.side l) }
world-reports w actor l e there is report =
    let here : step w actor ≡ replied w actor.lane.0 l (lane_step l actor.side) = ap (step_of w actor) there in
    ap (λ (x : WorldTurned). x.world) here
    ∙ driver-reports w actor.lane.0 l actor.side e (sym (ap (λ (x : WorldTurned). entry_of x.turn) here) ∙ is) report
