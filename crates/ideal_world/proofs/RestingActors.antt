-- If each script has ended or awaits a map that waits, and no callback is to be called, no actor can step.
use Rattle.std.proofs.Common.{◌≡◌, ℕ, Bool, true, false, Option, Some, None, if◌then◌else◌, refl, ap, sym, ◌∙◌, subst}
use Rattle.std.proofs.Common.{slice_get}
use Rattle.std.specs.Option.{option_and_then}
use Rattle.std.proofs.lemmas.Bool.{leb-true}
use Rattle.std.proofs.lemmas.Option.{slice_get_past}
use Rattle.busdma_base.specs.declared.journals.journal.Side.{Side}
use Rattle.busdma_base.specs.declared.journals.journal.Side.TheVariants as side
use Rattle.busdma_base.specs.declared.scenarios.script.Op.{Op}
use Rattle.busdma_base.specs.declared.scenarios.script.Op.TheVariants as op
use Rattle.busdma_machine.specs.Bounce.AccountStep.{called_from}
use Rattle.ideal_lane.specs.Asking.{Gives, goes_on}
use Rattle.ideal_lane.specs.State.{LaneState}
use Rattle.ideal_lane.specs.Sends.{due_send, send_at, send_of}
use Rattle.ideal_lane.specs.Turns.{Blocked, stays, due_turn, operation, waits, went_on, next_operation, script_turn}
use Rattle.ideal_lane.specs.Turns.{transfer_turn, called_back, lane_step}
use Rattle.ideal_world.specs.Ends.{IsAtRest}
use Rattle.ideal_world.specs.Waiting.{IsAwaiting, EndsOrAwaits, HasEnded, Awaits, DriverAwaits, OnlyAwaits}
use Rattle.ideal_world.specs.World.{WorldState, replied, step_of, entry_of}

module _ (w : WorldState) (only : OnlyAwaits w) where
  module _ (i : ℕ) (l : LaneState) (there : slice_get w.lanes i ≡ Some l) where
    driver : DriverAwaits w.account l
    driver = only.each i l there

    -- the map that is awaited waits
    awaited : (a : IsAwaiting w.account l) → waits (op.Await a.map) l ≡ true
    awaited a = rw (a.there, a.stage) refl

    -- there is no send at the place of a script that has ended or awaits
    nothing-due : (q : Option Op) → slice_get l.script l.place ≡ q → option_and_then send_of q ≡ None →
        due_send l ≡ None
    nothing-due q e none = by l.due
      where
        by : (b : Bool) → (if b then send_at l.script l.place else None) ≡ None
        by true = ap (option_and_then send_of) e ∙ none
        by false = refl

    due : EndsOrAwaits w.account l → due_send l ≡ None
    due (HasEnded e) = nothing-due None (slice_get_past l.script l.place (leb-true _ _ e)) refl
    due (Awaits a) = nothing-due (Some (op.Await a.map)) a.operation refl

    next : EndsOrAwaits w.account l →
        entry_of (replied w i l (next_operation (slice_get l.script l.place) l)).turn ≡ None
    next (HasEnded e) =
        subst (λ o. entry_of (replied w i l (next_operation o l)).turn ≡ None)
        (sym (slice_get_past l.script l.place (leb-true _ _ e))) refl
    next (Awaits a) =
        subst (λ o. entry_of (replied w i l (next_operation o l)).turn ≡ None) (sym a.operation)
        (subst (λ b. entry_of (replied w i l (if b then Gives (stays Blocked l)
        else goes_on (went_on (op.Await a.map) l.place) (operation (op.Await a.map) l))).turn
        ≡ None) (sym (awaited a)) refl)

    rests : (s : Side) → entry_of (replied w i l (lane_step l s)).turn ≡ None
    rests side.Script =
        subst (λ rs. entry_of (replied w i l (script_turn rs l)).turn ≡ None) (sym driver.returns)
        (subst (λ q. entry_of (replied w i l (due_turn q l)).turn ≡ None) (sym (due driver.script))
        (next driver.script))
    rests side.Transfer =
        subst (λ qs. entry_of (replied w i l (transfer_turn qs l)).turn ≡ None) (sym driver.queue) refl
    rests side.Callback =
        subst (λ ws. entry_of (called_back l (called_from ws l.id w.account).reply).turn ≡ None) (sym only.ready) refl

  pub awaits-at-rest : IsAtRest w
  awaits-at-rest actor = by (slice_get w.lanes actor.lane.0) refl
    where
      by : (o : Option LaneState) → slice_get w.lanes actor.lane.0 ≡ o → entry_of (step_of w actor o).turn ≡ None
      by None e = refl
      by (Some l) e = rests actor.lane.0 l e actor.side
