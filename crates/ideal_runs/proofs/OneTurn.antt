-- The turn of a driver whose step is known is the turn of the world.
use Rattle.std.proofs.Common.{◌≡◌, ℕ, List, ◌∷◌, Some, sym, ap, ◌∙◌, subst, slice_get, slice_set, unwrap_or}
use Rattle.busdma_machine.specs.declared.bounce.hold.HoldEntry.{HoldEntry}
use Rattle.busdma_machine.specs.declared.bounce.hold.HubReply.{HubReply}
use Rattle.busdma_machine.specs.declared.bounce.hold.HubReply.TheVariants.{Nothing}
use Rattle.busdma_base.specs.declared.journals.journal.Actor.{Actor}
use Rattle.busdma_base.specs.declared.journals.journal.JournalEntry.{JournalEntry}
use Rattle.busdma_machine.specs.Bounce.Account.{Account}
use Rattle.busdma_machine.specs.Bounce.AccountStep.{account_step}
use Rattle.busdma_machine.specs.Bounce.History.{IsSoundEntry, after_entry}
use Rattle.ideal_lane.specs.Asking.{Asking, Gives, Asks, call_of, by_reply}
use Rattle.ideal_lane.specs.State.{LaneState}
use Rattle.ideal_lane.specs.Turns.{Turned, Stepped, lane_step}
use Rattle.ideal_lane.proofs.Own.{IsOwn, turn-own}
use Rattle.ideal_world.specs.Legal.{Leads}
use Rattle.ideal_world.specs.World.{WorldState, WorldTurned, turned, replied, step_of, step, entry_of}
use Rattle.ideal_runs.specs.Merged.{world_of}
use Rattle.ideal_runs.specs.Runs.{StepsAlone, StepsBy}

-- a driver's turn that is a step with this entry
abbrev stepped : LaneState → JournalEntry → Turned
stepped m e = record { lane = m; turn = Stepped e }

-- an entry whose actor's turn is its step leads on
pub leads-first : (w v end : WorldState) (e : JournalEntry) (es : List JournalEntry) →
    step w e.actor ≡ record { world = v; turn = Stepped e } → Leads v es end → Leads w (e ∷ es) end
leads-first w v end e es is more =
    (ap (λ (x : WorldTurned). entry_of x.turn) is, subst (λ (x : WorldTurned). Leads x.world es end) (sym is) more)

-- the turn of a driver by a reply to its call that is the account's
replied-by : (w : WorldState) (i : ℕ) (l : LaneState) (h : HoldEntry) (t : Turned) (x : Asking Turned) →
    call_of x ≡ Some h.call → by_reply x h.reply ≡ t → h.reply ≡ (account_step l.id h.call w.account).reply →
    replied w i l x ≡ turned w i (account_step l.id h.call w.account).account t
replied-by w i l h t (Gives y) call is reply = absurd (cc)
replied-by w i l h t (Asks c k) call is reply =
    let same : c ≡ h.call = ap (λ o. unwrap_or o c) call in
    let a : Account = (account_step l.id h.call w.account).account in
    ap (λ d. turned w i (account_step l.id d w.account).account (k (account_step l.id d w.account).reply)) same
    ∙ ap (λ r. turned w i a (k r)) (sym reply) ∙ ap (turned w i a) is

module _ (l m : LaneState) (e : JournalEntry) where
  -- a step of a driver keeps its number, and its entry names it
  pub record IsOwnEntry : Type 0 where
    pub same : m.id ≡ l.id
    pub lane : e.actor.lane.0 ≡ l.id

  owned : (r : HubReply) → by_reply (lane_step l e.actor.side) r ≡ stepped m e → IsOwnEntry
  owned r is =
      let o : IsOwn l e.actor.side (stepped m e) = subst (IsOwn l e.actor.side) is (turn-own l e.actor.side r) in
      record { same = o.later.same_id; lane = ap (λ (a : Actor). a.lane.0) o.actor }

  pub alone-owned : StepsAlone l e m → IsOwnEntry
  alone-owned is = owned Nothing (ap (λ x. by_reply x Nothing) is)

  pub by-owned : (h : HoldEntry) → StepsBy h l e m → IsOwnEntry
  by-owned h by = owned h.reply by.turned

  module _ (w : WorldState) (i : ℕ) (number : l.id ≡ i) (there : slice_get w.lanes i ≡ Some l) where
    -- the turn of the entry's actor is the driver's turn
    actors-turn : IsOwnEntry → step w e.actor ≡ replied w i l (lane_step l e.actor.side)
    actors-turn own =
        let at : e.actor.lane.0 ≡ i = own.lane ∙ number in
        ap (λ j. step_of w e.actor (slice_get w.lanes j)) at ∙ ap (step_of w e.actor) there
        ∙ ap (λ j. replied w j l (lane_step l e.actor.side)) at

    -- a step without a call leaves the account as it was
    pub alone-turns : StepsAlone l e m →
        step w e.actor ≡ record { world = world_of (slice_set w.lanes i m) w.account; turn = Stepped e }
    alone-turns is = actors-turn (alone-owned is) ∙ ap (replied w i l) is

    -- a step by a sound hold makes the hold's change of the account
    pub by-turns : (h : HoldEntry) → h.lane.0 ≡ i → IsSoundEntry h w.account → StepsBy h l e m →
        step w e.actor ≡ record {
          world = world_of (slice_set w.lanes i m) (after_entry h w.account);
          turn = Stepped e;
        }
    by-turns h lane sound by =
        let own : l.id ≡ h.lane.0 = number ∙ sym lane in
        actors-turn (by-owned h by)
        ∙ replied-by w i l h (stepped m e) (lane_step l e.actor.side) by.call by.turned
        (sound.reply ∙ ap (λ j. (account_step j h.call w.account).reply) (sym own))
        ∙ ap (λ j. turned w i (account_step j h.call w.account).account (stepped m e)) own
