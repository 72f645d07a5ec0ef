-- Which actors make no step, and what their turns make of a run.
use Rattle.std.proofs.Common.{◌≡◌, ℕ, true, false, not, List, [], ◌∷◌, Option, None, Some, refl, sym, ap, ◌∙◌}
use Rattle.std.proofs.Common.{Bool, slice_get, ◌==◌, if◌then◌else◌}
use Rattle.std.specs.Prelude.{is_some}
use Rattle.busdma_base.specs.declared.journals.journal.Actor.{Actor}
use Rattle.busdma_base.specs.declared.journals.journal.JournalEntry.{JournalEntry}
use Rattle.busdma_base.specs.declared.journals.journal.Side.TheVariants as side
use Rattle.busdma_base.specs.declared.scenarios.script.Op.{Op}
use Rattle.busdma_machine.specs.declared.bounce.zone.Waiter.{Waiter}
use Rattle.busdma_machine.specs.Bounce.AccountStep.{account_step, called_from}
use Rattle.busdma_base.specs.declared.scenarios.queued.QueuedItem.{QueuedItem}
use Rattle.lane_agreement.specs.View.{Return}
use Rattle.ideal_lane.specs.Asking.{Asking, Gives, Asks, goes_on}
use Rattle.ideal_lane.specs.Outcomes.{Outcome}
use Rattle.ideal_lane.specs.Sends.{Send, due_send, is_kept, resend, send_of}
use Rattle.ideal_lane.specs.State.{LaneState}
use Rattle.ideal_lane.specs.Turns.{Blocked, Turned, advanced, called_back, due_turn, kept, lane_step, left_queue}
use Rattle.ideal_lane.specs.Turns.{next_operation, operation, resent, script_turn, stays, transfer, transfer_turn}
use Rattle.ideal_lane.specs.Turns.{waits}
use Rattle.ideal_lane.specs.Turns.{went_on}
use Rattle.lane_turns.specs.TakenTurns.{has_step, has_step_of}
use Rattle.ideal_world.specs.Legal.{Run, noted, turn}
use Rattle.ideal_world.specs.World.{WorldState, replied, step, step_entry, step_of, entry_of}
use Rattle.world_core.specs.Ideal.{has_no_callback, is_others_head}

-- a step that goes on to a turn with an entry has one, by whatever reply
made : {X : Type 0} (w : WorldState) (i : ℕ) (l : LaneState) (f : X → Turned) →
    ((x : X) → is_some (entry_of (f x).turn) ≡ true) → (a : Asking X) →
    is_some (entry_of (replied w i l (goes_on f a)).turn) ≡ true
made w i l f steps (Gives x) = steps x
made w i l f steps (Asks c k) = steps (k (account_step l.id c w.account).reply)

-- an operation that was done has an entry
goes-on : (b : Bool) (place : ℕ) (o : Outcome) →
    is_some (entry_of (if b then kept place o else advanced place o).turn) ≡ true
goes-on true place o = refl
goes-on false place o = refl

-- a device steps if its driver has an item for it, and only then
pub device-idle : (w : WorldState) (actor : Actor) (l : LaneState) → slice_get w.lanes actor.lane.0 ≡ Some l →
    actor.side ≡ side.Transfer → not (is_some (slice_get l.queue 0)) ≡ not (is_some (step_entry w actor))
device-idle w actor l found device = sym (
    ap (λ o. not (is_some (entry_of (step_of w actor o).turn))) found
    ∙ ap (λ s. not (is_some (entry_of (replied w actor.lane.0 l (lane_step l s)).turn))) device ∙ of l.queue)
  where
    of : (q : List QueuedItem) → not (is_some (entry_of (replied w actor.lane.0 l (transfer_turn q l)).turn))
        ≡ not (is_some (slice_get q 0))
    of [] = refl
    of (q ∷ rest) = ap not (made w actor.lane.0 l (left_queue q rest) (λ o. refl) (transfer q.item l))

-- a script steps if it has a step to make, and only then
pub script-idle : (w : WorldState) (actor : Actor) (l : LaneState) → slice_get w.lanes actor.lane.0 ≡ Some l →
    actor.side ≡ side.Script → not (has_step l) ≡ not (is_some (step_entry w actor))
script-idle w actor l found script = sym (
    ap (λ o. not (is_some (entry_of (step_of w actor o).turn))) found
    ∙ ap (λ s. not (is_some (entry_of (replied w actor.lane.0 l (lane_step l s)).turn))) script ∙ of l.returns)
  where
    rests : Asking Turned → Bool
    rests a = not (is_some (entry_of (replied w actor.lane.0 l a).turn))

    at : (o : Option Op) → rests (next_operation o l) ≡ not (has_step_of [] None o l)
    at None = refl
    at (Some o) = by (waits o l)
      where
        by : (b : Bool) →
            rests (if b then Gives (stays Blocked l) else goes_on (went_on o l.place) (operation o l)) ≡ not (not b)
        by true = refl
        by false =
            ap not (made w actor.lane.0 l (went_on o l.place)
            (λ x. goes-on (is_kept (send_of o) x.answer) l.place x) (operation o l))

    due : (s : Option Send) → rests (due_turn s l) ≡ not (has_step_of [] s (slice_get l.script l.place) l)
    due None = at (slice_get l.script l.place)
    due (Some s) = ap not (made w actor.lane.0 l (resent l.place) (λ o. refl) (resend s l))

    of : (rs : List Return) → rests (script_turn rs l)
        ≡ not (has_step_of rs (due_send l) (slice_get l.script l.place) l)
    of [] = due (due_send l)
    of (r ∷ rs) = refl

-- a callback is taken if the head of the callback list is the driver's, and only then
pub callback-idle : (w : WorldState) (actor : Actor) (l : LaneState) → slice_get w.lanes actor.lane.0 ≡ Some l →
    l.id ≡ actor.lane.0 → actor.side ≡ side.Callback → has_no_callback w actor.lane.0
    ≡ not (is_some (step_entry w actor))
callback-idle w actor l found numbered callback = sym (
    ap (λ o. not (is_some (entry_of (step_of w actor o).turn))) found
    ∙ ap (λ s. not (is_some (entry_of (replied w actor.lane.0 l (lane_step l s)).turn))) callback
    ∙ ap (λ k. not (is_some (entry_of (called_back l (called_from w.account.ready k w.account).reply).turn))) numbered
    ∙ of w.account.ready)
  where
    of : (ready : List Waiter) →
        not (is_some (entry_of (called_back l (called_from ready actor.lane.0 w.account).reply).turn))
        ≡ is_others_head actor.lane.0 (slice_get ready 0)
    of [] = refl
    of (x ∷ xs) = by (x.map.lane.0 == actor.lane.0) refl
      where
        by : (b : Bool) → (x.map.lane.0 == actor.lane.0) ≡ b →
            not (is_some (entry_of (called_back l (called_from (x ∷ xs) actor.lane.0 w.account).reply).turn))
            ≡ not (x.map.lane.0 == actor.lane.0)
        by true e = rw e refl
        by false e = rw e refl

-- an actor without a driver does not step
pub absent-idle : (w : WorldState) (actor : Actor) → slice_get w.lanes actor.lane.0 ≡ None →
    true ≡ not (is_some (step_entry w actor))
absent-idle w actor none = sym (ap (λ o. not (is_some (entry_of (step_of w actor o).turn))) none)

-- an actor that is idle has no entry
pub idle-none : (o : Option JournalEntry) → true ≡ not (is_some o) → o ≡ None
idle-none None h = refl
idle-none (Some e) h = absurd (cc)

-- an actor that makes no step leaves a run as it was
pub passed-over : (r : Run) (actor : Actor) → step_entry r.world actor ≡ None → r ≡ turn r actor
passed-over r actor none = sym (ap (noted r (step r.world actor).world) none)
