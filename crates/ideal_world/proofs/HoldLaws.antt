-- What a turn adds to the history of the bounce lock is sound, and leads to the account after the turn.
use Rattle.std.proofs.Common.{◌≡◌, ℕ, Bool, true, false, Option, Some, None, refl, sym, slice_get}
use Rattle.busdma_machine.specs.declared.bounce.hold.HubCall.{HubCall}
use Rattle.busdma_base.specs.declared.journals.journal.Actor.{Actor}
use Rattle.busdma_base.specs.declared.scenarios.scenario.Scenario.{Scenario}
use Rattle.busdma_machine.specs.Bounce.Account.{Account}
use Rattle.busdma_machine.specs.Bounce.AccountStep.{account_step}
use Rattle.busdma_machine.specs.Bounce.Conditions.{MayCall}
use Rattle.busdma_machine.specs.Bounce.History.{IsSound, account_of, is_entry}
use Rattle.ideal_lane.specs.Agreement.{IsAllowed}
use Rattle.ideal_lane.specs.Asking.{Asking, Gives, Asks}
use Rattle.ideal_lane.specs.State.{LaneState}
use Rattle.ideal_lane.specs.Turns.{Turned, lane_step}
use Rattle.ideal_world.specs.Holds.{hold_of, holds_at, holds_by, step_holds}
use Rattle.ideal_world.specs.WellFormed.{IsWellFormed}
use Rattle.ideal_world.specs.World.{WorldState, replied, step, step_of}
use Rattle.ideal_world.proofs.Keeping.{step-allowed}
use Rattle.ideal_world.proofs.Reached.{unkept}

call-sound : (lane : ℕ) (c : HubCall) (a : Account) → MayCall lane c a →
    IsSound a (hold_of lane c (account_step lane c a).reply)
call-sound lane c a may = by (is_entry c (account_step lane c a).reply) refl
  where
    by : (b : Bool) → is_entry c (account_step lane c a).reply ≡ b →
        IsSound a (hold_of lane c (account_step lane c a).reply)
    by true e = rw e (record { may = may; kept = e; reply = refl }, tt)
    by false e = rw e tt

call-leads : (lane : ℕ) (c : HubCall) (a : Account) →
    account_of a (hold_of lane c (account_step lane c a).reply) ≡ (account_step lane c a).account
call-leads lane c a = by (is_entry c (account_step lane c a).reply) refl
  where
    by : (b : Bool) → is_entry c (account_step lane c a).reply ≡ b →
        account_of a (hold_of lane c (account_step lane c a).reply) ≡ (account_step lane c a).account
    by true e = rw e refl
    by false e = rw e (sym (unkept lane c a e))

step-sound : (l : LaneState) (a : Account) (x : Asking Turned) → IsAllowed l.id a x → IsSound a (holds_by l.id x a)
step-sound l a (Gives t) h = tt
step-sound l a (Asks c k) h = call-sound l.id c a h

pub holds-sound : (s : Scenario) (w : WorldState) (actor : Actor) → IsWellFormed s w →
    IsSound w.account (step_holds w actor)
holds-sound s w actor well = by (slice_get w.lanes actor.lane.0) refl
  where
    by : (o : Option LaneState) → slice_get w.lanes actor.lane.0 ≡ o → IsSound w.account (holds_at w actor o)
    by None e = tt
    by (Some l) e =
        step-sound l w.account (lane_step l actor.side) (step-allowed s w well actor.lane.0 l actor.side e)

step-leads : (w : WorldState) (i : ℕ) (l : LaneState) (x : Asking Turned) →
    account_of w.account (holds_by l.id x w.account) ≡ (replied w i l x).world.account
step-leads w i l (Gives t) = refl
step-leads w i l (Asks c k) = call-leads l.id c w.account

pub holds-lead : (w : WorldState) (actor : Actor) →
    account_of w.account (step_holds w actor) ≡ (step w actor).world.account
holds-lead w actor = by (slice_get w.lanes actor.lane.0)
  where
    by : (o : Option LaneState) → account_of w.account (holds_at w actor o) ≡ (step_of w actor o).world.account
    by None = refl
    by (Some l) = step-leads w actor.lane.0 l (lane_step l actor.side)
