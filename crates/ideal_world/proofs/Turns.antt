-- What an actor's turn makes of each driver: the actor's own driver makes a step, by the account's reply to its call,
-- and every other driver stays as it was.
use Rattle.std.proofs.Common.{◌≡◌, ◌≢◌, ◌⊎◌, inl, inr, ℕ, Option, Some, None, refl, sym, ap, ◌∙◌, slice_get, slice_set}
use Rattle.busdma_machine.specs.declared.bounce.hold.HubCall.{HubCall}
use Rattle.busdma_machine.specs.declared.bounce.hold.HubReply.{HubReply}
use Rattle.busdma_machine.specs.declared.bounce.hold.HubReply.TheVariants.{Nothing}
use Rattle.busdma_base.specs.declared.journals.journal.Actor.{Actor}
use Rattle.busdma_machine.specs.Bounce.AccountStep.{account_step}
use Rattle.ideal_lane.specs.Asking.{Asking, Gives, Asks, by_reply}
use Rattle.ideal_lane.specs.State.{LaneState}
use Rattle.ideal_lane.specs.Turns.{Turned, lane_step}
use Rattle.ideal_world.specs.World.{WorldState, WorldTurned, replied, step_of, step}
use Rattle.ideal_world.proofs.Lanes.{each_set, set-here, set-other, within}

-- the account gives a reply to a call of a driver; without a call there is none
abbrev pub IsGiven : WorldState → LaneState → HubReply → Type 0
IsGiven w l r = (r ≡ Nothing) ⊎ ((c : HubCall) × (r ≡ (account_step l.id c w.account).reply))

-- the world after the turn of a driver: the driver is as the turn leaves it, by the account's reply to its call
record Turns (w : WorldState) (i : ℕ) (l : LaneState) (x : Asking Turned) (after : WorldTurned) : Type 0 where
  reply : HubReply
  given : IsGiven w l reply
  lanes : after.world.lanes ≡ slice_set w.lanes i (by_reply x reply).lane
  turn : after.turn ≡ (by_reply x reply).turn

turns : (w : WorldState) (i : ℕ) (l : LaneState) (x : Asking Turned) → Turns w i l x (replied w i l x)
turns w i l (Gives t) = record { reply = Nothing; given = inl refl; lanes = refl; turn = refl }
turns w i l (Asks c k) = record {
  reply = (account_step l.id c w.account).reply;
  given = inr (c, refl);
  lanes = refl;
  turn = refl;
}

-- the actor's driver does the step of its side
pub record OwnStep (w : WorldState) (actor : Actor) (l : LaneState) : Type 0 where
  pub reply : HubReply
  pub given : IsGiven w l reply
  pub lanes : (step w actor).world.lanes ≡ slice_set w.lanes actor.lane.0
      (by_reply (lane_step l actor.side) reply).lane
  pub there : slice_get (step w actor).world.lanes actor.lane.0 ≡ Some (by_reply (lane_step l actor.side) reply).lane
  pub turn : (step w actor).turn ≡ (by_reply (lane_step l actor.side) reply).turn

pub own-step : (w : WorldState) (actor : Actor) (l : LaneState) → slice_get w.lanes actor.lane.0 ≡ Some l →
    OwnStep w actor l
own-step w actor l e =
    let k : ℕ = actor.lane.0 in
    let t = turns w k l (lane_step l actor.side) in
    let is : step w actor ≡ replied w k l (lane_step l actor.side) = ap (step_of w actor) e in
    let lanes = ap (λ (x : WorldTurned). x.world.lanes) is ∙ t.lanes in
    record {
      reply = t.reply;
      given = t.given;
      lanes = lanes;
      there = ap (λ ls. slice_get ls k) lanes
          ∙ set-here w.lanes k (by_reply (lane_step l actor.side) t.reply).lane (within w.lanes k l e);
      turn = ap (λ (x : WorldTurned). x.turn) is ∙ t.turn;
    }

-- each other driver stays
pub other-step : (w : WorldState) (actor : Actor) (j : ℕ) → j ≢ actor.lane.0 →
    slice_get (step w actor).world.lanes j ≡ slice_get w.lanes j
other-step w actor j off = by (slice_get w.lanes actor.lane.0) refl
  where
    by : (o : Option LaneState) → slice_get w.lanes actor.lane.0 ≡ o →
        slice_get (step_of w actor o).world.lanes j ≡ slice_get w.lanes j
    by None e = refl
    by (Some l) e =
        let t = turns w actor.lane.0 l (lane_step l actor.side) in
        ap (λ ls. slice_get ls j) t.lanes
        ∙ set-other w.lanes actor.lane.0 j (by_reply (lane_step l actor.side) t.reply).lane off

-- what holds of the actor's driver after its step, and of the others before it, holds of all drivers after it
pub each-step : (P : ℕ → LaneState → Type 0) (w : WorldState) (actor : Actor) →
    ((l : LaneState) (o : OwnStep w actor l) → slice_get w.lanes actor.lane.0 ≡ Some l →
    P actor.lane.0 (by_reply (lane_step l actor.side) o.reply).lane) →
    ((j : ℕ) (n : LaneState) → j ≢ actor.lane.0 → slice_get w.lanes j ≡ Some n → P j n) →
    (i : ℕ) (n : LaneState) → slice_get (step w actor).world.lanes i ≡ Some n → P i n
each-step P w actor mine others i n h = by (slice_get w.lanes actor.lane.0) refl
  where
    k : ℕ
    k = actor.lane.0

    absent : slice_get w.lanes k ≡ None → slice_get w.lanes k ≡ Some n → ⊥
    absent e f = let clash : None ≡ Some n = sym e ∙ f in absurd (cc)

    by : (o : Option LaneState) → slice_get w.lanes k ≡ o → P i n
    by None e =
        let same : slice_get w.lanes i ≡ Some n =
        sym (ap (λ o. slice_get (step_of w actor o).world.lanes i) e) ∙ h in
        others i n (λ at. absent e (sym (ap (slice_get w.lanes) at) ∙ same)) same
    by (Some l) e =
        let o = own-step w actor l e in
        each_set P w.lanes k (by_reply (lane_step l actor.side) o.reply).lane (mine l o e) others i n
        (sym (ap (λ ls. slice_get ls i) o.lanes) ∙ h)

-- a driver that is not there stays away
pub still : (w : WorldState) (actor : Actor) (i : ℕ) → slice_get w.lanes i ≡ None →
    slice_get (step w actor).world.lanes i ≡ None
still w actor i none = by (slice_get w.lanes actor.lane.0) refl
  where
    by : (o : Option LaneState) → slice_get w.lanes actor.lane.0 ≡ o →
        slice_get (step_of w actor o).world.lanes i ≡ None
    by None e = none
    by (Some l) e =
        let off : i ≢ actor.lane.0 = (λ same. absent l (sym e ∙ (ap (slice_get w.lanes) (sym same) ∙ none))) in
        let t = turns w actor.lane.0 l (lane_step l actor.side) in
        ap (λ ls. slice_get ls i) t.lanes
        ∙ (set-other w.lanes actor.lane.0 i (by_reply (lane_step l actor.side) t.reply).lane off ∙ none)
      where
        absent : (l : LaneState) → Some l ≡ None → ⊥
        absent l clash = absurd (cc)
