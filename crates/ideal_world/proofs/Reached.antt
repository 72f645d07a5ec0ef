-- A call that a driver may make is an entry of the account's history, or leaves the account as it was.
use Rattle.std.proofs.Common.{◌≡◌, ◌≢◌, ℕ, ◌<◌, ◌==◌, Bool, true, false, List, [], ◌∷◌, ◌++◌, length, ◌⊎◌}
use Rattle.std.proofs.Common.{inl, inr, refl, sym, ap, ◌∙◌, subst, Some, slice_get}
use Rattle.std.proofs.lemmas.List.Elements.{All-nil, All-cons, All-push}
use Rattle.busdma_machine.specs.declared.bounce.hold.HoldEntry.{HoldEntry}
use Rattle.busdma_machine.specs.declared.bounce.hold.HubCall.{HubCall}
use Rattle.busdma_machine.specs.declared.bounce.hold.HubCall.TheVariants as call
use Rattle.busdma_machine.specs.declared.bounce.hold.HubReply.{HubReply}
use Rattle.busdma_machine.specs.declared.bounce.zone.Waiter.{Waiter}
use Rattle.busdma_base.specs.declared.scenarios.scenario.Scenario.{Scenario}
use Rattle.busdma_machine.specs.Bounce.Account.{Account}
use Rattle.busdma_machine.specs.Bounce.AccountStep.{account_step, called_from}
use Rattle.busdma_machine.specs.Bounce.Conditions.{MayCall}
use Rattle.busdma_machine.specs.Bounce.EachFrame.{EachFrame, LiesBelowMaxmem}
use Rattle.busdma_machine.specs.Bounce.History.{IsFrame, IsSound, IsSoundEntry}
use Rattle.busdma_machine.specs.Bounce.History.{account_of, after_entry, is_entry}
use Rattle.busdma_machine.specs.Bounce.LowPages.{PagesLieLow}
use Rattle.busdma_base.specs.Scenarios.Opening.{opening}
use Rattle.busdma_machine.specs.Bounce.WellFormed as account
use Rattle.busdma_base.specs.Scenarios.Valid.{IsValid}
use Rattle.busdma_machine.proofs.Accounts.LaneEntries.{account_of-append}
use Rattle.busdma_machine.proofs.Accounts.EachFrame.{whole-history, below-history}
use Rattle.busdma_base.proofs.OpeningLaws.{below-opening}
use Rattle.busdma_machine.proofs.Accounts.LowPages.{pages-low}
use Rattle.busdma_base.proofs.OpeningLaws.{opening-may_begin}
use Rattle.busdma_machine.proofs.Accounts.WellFormed.{well-opening}
use Rattle.lane_agreement.specs.Agreement.{Agrees, IsFit}
use Rattle.lane_agreement.specs.View.{View}
use Rattle.lane_agreement.proofs.Others.{agrees-stays}
use Rattle.lane_agreement.proofs.Whole.{fit-reached}
use Rattle.ideal_lane.specs.State.{LaneState}
use Rattle.ideal_wire.specs.NewRuns.{BringsNew}
use Rattle.ideal_wire.proofs.Apart.NewFrames.{given-new}
use Rattle.ideal_world.specs.WellFormed.{IsAccountReached, IsWellFormed}
use Rattle.ideal_world.specs.World.{WorldState}
use Rattle.ideal_world.proofs.Turns.{IsGiven}

-- the entry of a driver's call
abbrev pub entry : ℕ → HubCall → Account → HoldEntry
entry lane c a = record { lane = record { 0 = lane }; call = c; reply = (account_step lane c a).reply }

-- a callback that is not found changes nothing
missed : (ws : List Waiter) (lane : ℕ) (a : Account) → is_entry call.TakeCallback (called_from ws lane a).reply ≡ false
    →
    (called_from ws lane a).account ≡ a
missed [] lane a h = refl
missed (w ∷ ws) lane a h = by (w.map.lane.0 == lane) refl h
  where
    by : (b : Bool) → (w.map.lane.0 == lane) ≡ b →
        is_entry call.TakeCallback (called_from (w ∷ ws) lane a).reply ≡ false →
        (called_from (w ∷ ws) lane a).account ≡ a
    by true e h = absurd (cc)
    by false e h = rw e refl

-- a call that is no entry changes nothing
pub unkept : (lane : ℕ) (c : HubCall) (a : Account) → is_entry c (account_step lane c a).reply ≡ false →
    (account_step lane c a).account ≡ a
unkept lane call.TakeCallback a h = missed a.ready lane a h
unkept lane _ a h = absurd (cc)

entered : (lane : ℕ) (c : HubCall) (a : Account) → MayCall lane c a →
    IsSoundEntry (entry lane c a) a ⊎ ((account_step lane c a).account ≡ a)
entered lane c a may = by (is_entry c (account_step lane c a).reply) refl
  where
    by : (b : Bool) → is_entry c (account_step lane c a).reply ≡ b →
        IsSoundEntry (entry lane c a) a ⊎ ((account_step lane c a).account ≡ a)
    by true e = inl (record { may = may; kept = e; reply = refl })
    by false e = inr (unkept lane c a e)

-- a history with one more entry
sound-push : (a : Account) (es : List HoldEntry) (e : HoldEntry) → IsSound a es → IsSoundEntry e (account_of a es) →
    IsSound a (es ++ e ∷ [])
sound-push a [] e s h = (h, tt)
sound-push a (d ∷ es) e s h = (s.0, sound-push (after_entry d a) es e s.1 h)

-- the account after a call of one of the scenario's drivers is reached too
pub reached-on : (s : Scenario) (lane : ℕ) (c : HubCall) (a : Account) → lane < length s.drivers →
    MayCall lane c a → IsAccountReached s a → IsAccountReached s (account_step lane c a).account
reached-on s lane c a own may r = by (entered lane c a may)
  where
    by : IsSoundEntry (entry lane c a) a ⊎ ((account_step lane c a).account ≡ a) →
        IsAccountReached s (account_step lane c a).account
    by (inl e) = record {
      history = r.history ++ entry lane c a ∷ [];
      sound =
          sound-push (opening s) r.history (entry lane c a) r.sound
          (subst (IsSoundEntry (entry lane c a)) (sym r.leads) e);
      own = All-push (λ (d : HoldEntry). d.lane.0 < length s.drivers) r.history (entry lane c a) r.own own;
      leads =
          account_of-append (opening s) r.history (entry lane c a ∷ [])
          ∙ ap (λ b. account_of b (entry lane c a ∷ [])) r.leads;
    }
    by (inr same) = subst (IsAccountReached s) (sym same) r

-- another driver agrees with the account after the call
pub others-agree : (l : View) (lane : ℕ) (c : HubCall) (a : Account) → account.IsAccountWellFormed a → lane ≢ l.id →
    MayCall lane c a → Agrees l a → Agrees l (account_step lane c a).account
others-agree l lane c a well off may g = by (entered lane c a may)
  where
    by : IsSoundEntry (entry lane c a) a ⊎ ((account_step lane c a).account ≡ a) →
        Agrees l (account_step lane c a).account
    by (inl e) =
        agrees-stays l a (entry lane c a ∷ []) well g (e, tt)
        (All-cons (λ (d : HoldEntry). d.lane.0 ≢ l.id) (entry lane c a) [] off
        (All-nil (λ (d : HoldEntry). d.lane.0 ≢ l.id)))
    by (inr same) = subst (Agrees l) (sym same) g

-- an account that is reached fits
pub reached-fits : (s : Scenario) (a : Account) → IsValid s → IsAccountReached s a → IsFit a
reached-fits s a valid r =
    subst IsFit r.leads (fit-reached (opening s) r.history (opening-may_begin s valid) r.sound)

-- the pages of the zones of an account that is reached lie low
pub reached-low : (s : Scenario) (a : Account) → IsValid s → IsAccountReached s a → PagesLieLow a
reached-low s a valid r =
    subst PagesLieLow r.leads (pages-low (opening s) r.history (opening-may_begin s valid) r.sound)

-- each frame of an account that is reached begins at a multiple of 4096
pub reached-whole : (s : Scenario) (a : Account) → IsValid s → IsAccountReached s a → EachFrame IsFrame a
reached-whole s a valid r =
    subst (EachFrame IsFrame) r.leads (whole-history (opening s) r.history (opening-may_begin s valid) r.sound)

-- the frames of an account that is reached lie below the end of memory
pub reached-below : (s : Scenario) (a : Account) → IsValid s → IsAccountReached s a → LiesBelowMaxmem a
reached-below s a valid r =
    subst LiesBelowMaxmem r.leads
    (below-history (opening s) r.history (well-opening (opening s) (opening-may_begin s valid)) r.sound
    (below-opening s))

-- what the account gives to a driver of a well-formed world is new to it
pub given-to : (s : Scenario) (w : WorldState) → IsWellFormed s w → (i : ℕ) (l : LaneState) →
    slice_get w.lanes i ≡ Some l → (c : HubCall) → BringsNew l (account_step l.id c w.account).reply
given-to s w well i l e c =
    let d = well.each i l e in
    given-new l w.account d.agrees (reached-whole s w.account well.valid well.reached)
    (reached-below s w.account well.valid well.reached) d.laid l.id c

pub given-reply : (s : Scenario) (w : WorldState) → IsWellFormed s w → (i : ℕ) (l : LaneState) →
    slice_get w.lanes i ≡ Some l → (r : HubReply) → IsGiven w l r → BringsNew l r
given-reply s w well i l e r (inl none) = subst (BringsNew l) (sym none) tt
given-reply s w well i l e r (inr x) = subst (BringsNew l) (sym x.1) (given-to s w well i l e x.0)
