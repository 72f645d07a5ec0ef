-- A turn that is a step leaves all drivers less to do; any other leaves the world as it was.
use Rattle.std.proofs.Common.{◌≡◌, ℕ, ◌<◌, ◌==◌, Bool, true, false, List, [], ◌∷◌, Option, Some, None, refl}
use Rattle.std.proofs.Common.{sym, ap, ◌∙◌, arith, slice_get, subst}
use Rattle.busdma_machine.specs.declared.bounce.hold.HubCall.{HubCall}
use Rattle.busdma_machine.specs.declared.bounce.hold.HubReply.{HubReply}
use Rattle.busdma_machine.specs.declared.bounce.hold.HubReply.TheVariants.{Nothing}
use Rattle.busdma_machine.specs.declared.bounce.zone.Waiter.{Waiter}
use Rattle.busdma_base.specs.declared.journals.journal.Actor.{Actor}
use Rattle.busdma_base.specs.declared.journals.journal.JournalEntry.{JournalEntry}
use Rattle.busdma_base.specs.declared.journals.journal.Side.{Side}
use Rattle.busdma_base.specs.declared.scenarios.scenario.Scenario.{Scenario}
use Rattle.busdma_machine.specs.Bounce.Account.{Account}
use Rattle.busdma_machine.specs.Bounce.AccountStep.{account_step, called_from}
use Rattle.ideal_lane.specs.Asking.{Asking, Gives, Asks}
use Rattle.ideal_lane.specs.Left.{left, Falls, FallsOrStays}
use Rattle.ideal_lane.specs.State.{LaneState}
use Rattle.ideal_lane.specs.Turns.{Turn, Turned, Stepped, Blocked, Ended, stays, lane_step}
use Rattle.ideal_lane.proofs.Effects.{IsReplyOf, IsStay, IsUncalled, NoneCalled, NothingLeft, NothingNow, Stays, Steps}
use Rattle.ideal_lane.proofs.Falling.{turn-falls}
use Rattle.ideal_lane.proofs.Stepping.{Stepped-by, turn-steps}
use Rattle.ideal_world.specs.Left.{left_of}
use Rattle.ideal_world.specs.WellFormed.{IsWellFormed}
use Rattle.ideal_world.specs.World.{WorldState, turned, replied, step_of, step, entry_of, step_entry}
use Rattle.ideal_world.proofs.Keeping.{fits}
use Rattle.ideal_world.proofs.Lanes.{set_same, sum_set}

-- ---- a step

fell : (l m : LaneState) (t : Turn) (e : JournalEntry) → Falls l m t → entry_of t ≡ Some e → left m < left l
fell l m (Stepped entry) e f h = f
fell l m Blocked e f h = absurd (cc)
fell l m Ended e f h = absurd (cc)

module _ (w : WorldState) (i : ℕ) (l : LaneState) (there : slice_get w.lanes i ≡ Some l) where
  driver-falls : (x : Asking Turned) (e : JournalEntry) → FallsOrStays l w.account x →
      entry_of (replied w i l x).turn ≡ Some e → left_of (replied w i l x).world < left_of w
  driver-falls (Gives t) e f h = omega (arith, sum_set left w.lanes i l t.lane there, fell l t.lane t.turn e f h)
  driver-falls (Asks c k) e f h =
      let t : Turned = k (account_step l.id c w.account).reply in
      omega (arith, sum_set left w.lanes i l t.lane there, fell l t.lane t.turn e f h)

pub step-falls : (s : Scenario) (w : WorldState) (actor : Actor) (e : JournalEntry) → IsWellFormed s w →
    step_entry w actor ≡ Some e → left_of (step w actor).world < left_of w
step-falls s w actor e well = by (slice_get w.lanes actor.lane.0) refl
  where
    by : (o : Option LaneState) → slice_get w.lanes actor.lane.0 ≡ o → entry_of (step_of w actor o).turn ≡ Some e →
        left_of (step_of w actor o).world < left_of w
    by None f h = absurd (cc)
    by (Some l) f h =
        let d = well.each actor.lane.0 l f in
        driver-falls w actor.lane.0 l f (lane_step l actor.side) e
        (turn-falls l actor.side w.account d.stands d.machine.clusters (fits s w well) d.agrees) h

-- ---- no step

-- a callback that does not come leaves the account as it was
missed : (ws : List Waiter) (lane : ℕ) (a : Account) → IsUncalled (called_from ws lane a).reply →
    (called_from ws lane a).account ≡ a
missed [] lane a h = refl
missed (x ∷ ws) lane a h = by (x.map.lane.0 == lane) refl h
  where
    by : (b : Bool) → (x.map.lane.0 == lane) ≡ b → IsUncalled (called_from (x ∷ ws) lane a).reply →
        (called_from (x ∷ ws) lane a).account ≡ a
    by true e h = absurd (rw e at h)
    by false e h = rw e refl

module _ (w : WorldState) (i : ℕ) (l : LaneState) (there : slice_get w.lanes i ≡ Some l) where
  -- the account after the call of a turn, if it makes one
  abbrev after : Option HubCall → Account
  after None = w.account
  after (Some c) = (account_step l.id c w.account).account

  stay-keeps : {c : Option HubCall} {r : HubReply} {t : Turn} → IsStay c r t → IsReplyOf l.id w.account c r →
      after c ≡ w.account
  stay-keeps NothingNow is = refl
  stay-keeps NothingLeft is = refl
  stay-keeps (NoneCalled u) is = missed w.account.ready l.id w.account (subst IsUncalled (sym is) u)

  -- the only turns without an entry are those that stay
  steps-rest : {s : Side} {c : Option HubCall} {r : HubReply} {t : Turned} → Steps l s c r t →
      IsReplyOf l.id w.account c r → entry_of t.turn ≡ None → (turned w i (after c) t).world ≡ w
  steps-rest (Stays t e) is h =
      ap (λ a. (turned w i a (stays t l)).world) (stay-keeps e is)
      ∙ ap (λ ls. record w { lanes = ls }) (set_same w.lanes i l l there refl)
  steps-rest _ is h = absurd (cc)

  driver-rests : (s : Side) (x : Asking Turned) → Stepped-by l s x → entry_of (replied w i l x).turn ≡ None →
      (replied w i l x).world ≡ w
  driver-rests s (Gives t) k h = steps-rest (k Nothing) tt h
  driver-rests s (Asks c f) k h = steps-rest (k (account_step l.id c w.account).reply) refl h

pub step-rests : (w : WorldState) (actor : Actor) → step_entry w actor ≡ None → (step w actor).world ≡ w
step-rests w actor = by (slice_get w.lanes actor.lane.0) refl
  where
    by : (o : Option LaneState) → slice_get w.lanes actor.lane.0 ≡ o → entry_of (step_of w actor o).turn ≡ None →
        (step_of w actor o).world ≡ w
    by None f h = refl
    by (Some l) f h =
        driver-rests w actor.lane.0 l f actor.side (lane_step l actor.side) (turn-steps l actor.side) h
