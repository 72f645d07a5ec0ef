-- What holds of a driver after a turn at a door to the bounce lock.
use Rattle.std.proofs.Common.{◌≡◌, inl, inr, ℕ, ◌==◌, Bool, true, false, cond, List, [], ◌∷◌, ◌++◌, refl, sym, ap}
use Rattle.std.proofs.Common.{◌∙◌, subst}
use Rattle.busdma_machine.specs.declared.bounce.hold.HoldEntry.{HoldEntry}
use Rattle.busdma_machine.specs.declared.bounce.hold.HubReply.{HubReply}
use Rattle.busdma_machine.specs.declared.bounce.hold.HubReply.TheVariants.{Nothing, Called}
use Rattle.busdma_machine.specs.declared.bounce.zone.Waiter.{Waiter}
use Rattle.busdma_base.specs.declared.journals.journal.Side.{Side}
use Rattle.busdma_machine.specs.Bounce.Account.{Account, zone_at}
use Rattle.busdma_machine.specs.Bounce.AccountStep.{AccountReply as Outcome, account_step, as_pages, called_from}
use Rattle.busdma_machine.specs.Bounce.Door.{Seen, Passes, account}
use Rattle.busdma_machine.specs.Bounce.EachFrame.{EachFrame, LiesBelowMaxmem}
use Rattle.busdma_machine.specs.Bounce.History.{IsFrame, IsOpening, IsSound, account_of, after_entry}
use Rattle.busdma_machine.specs.Bounce.Serving.{handed}
use Rattle.busdma_machine.proofs.Accounts.EachFrame.{below-history, whole-history}
use Rattle.busdma_machine.proofs.Accounts.WellFormed.{well-opening}
use Rattle.lane_agreement.specs.Agreement.{IsFit}
use Rattle.lane_agreement.proofs.Doors.{agrees-passes}
use Rattle.lane_agreement.proofs.Whole.{fit-reached}
use Rattle.ideal_lane.specs.Agreement.{AgreesWith, KeepsAgreement}
use Rattle.ideal_lane.specs.Asking.{Asking, Gives, Asks, by_reply}
use Rattle.ideal_lane.specs.Standing.{KeepsStanding, Stands}
use Rattle.ideal_lane.specs.State.{LaneState}
use Rattle.ideal_lane.specs.Turns.{Turned, lane_step}
use Rattle.ideal_lane.specs.View.{view_of}
use Rattle.ideal_lane.proofs.StandingLaws.{turn-stands}
use Rattle.ideal_lane.proofs.TurnLaws.{turn-kept}
use Rattle.ideal_wire.specs.Laid.{AreLaid, KeepsLaid}
use Rattle.ideal_wire.specs.Machine.{IsInMachine}
use Rattle.ideal_wire.specs.NewRuns.{BringsNew}
use Rattle.ideal_wire.proofs.Laid.LaidTurns.{turn-laid}
use Rattle.ideal_wire.proofs.Apart.NewFrames.{given-new}
use Rattle.lane_state.specs.Served.{IsServed}
use Rattle.lane_turns.specs.TakenTurns.{IsTurned}

-- ---- the account after entries, and if no callback was found

account-append : (a : Account) (es fs : List HoldEntry) → account_of a (es ++ fs) ≡ account_of (account_of a es) fs
account-append a [] fs = refl
account-append a (e ∷ es) fs = account-append (after_entry e a) es fs

none-taken : (ws : List Waiter) (lane : ℕ) (a : Account) → (called_from ws lane a).reply ≡ Nothing →
    (called_from ws lane a).account ≡ a
none-taken [] lane a h = refl
none-taken (w ∷ ws) lane a h = by (w.map.lane.0 == lane) h
  where
    taken : Bool → Outcome
    taken b = cond b (record {
      account = handed (record a { ready = ws }) w.map w.zone.0 w.need;
      reply = Called w.map (as_pages (Rattle.std.proofs.Common.take w.need
          (zone_at (record a { ready = ws }) w.zone.0).avail));
    }) (record { account = a; reply = Nothing })

    by : (b : Bool) → (taken b).reply ≡ Nothing → (taken b).account ≡ a
    by true h = absurd (cc)
    by false h = refl

-- ---- what a turn leads to

-- a driver after a turn with some reply: it satisfies `Stands`, agrees with the account that the door has seen, and has
-- its loads laid
pub record Led (l : LaneState) (s : Side) (d : Seen) (x : Turned) (e : Seen) : Type 0 where
  pub reply : HubReply
  pub is : x.lane ≡ (by_reply (lane_step l s) reply).lane
  pub stands : Stands x.lane
  pub agrees : AgreesWith x.lane (account e)
  pub laid : AreLaid x.lane
  pub new : BringsNew l reply
  pub opening : IsOpening e.opening
  pub below : LiesBelowMaxmem e.opening
  pub sound : IsSound e.opening e.history
  pub serves : e.serves ≡ d.serves

module _ (l : LaneState) (s : Side) (d : Seen) (stands : Stands l) (served : IsServed l d) (machine : IsInMachine l)
    (laid : AreLaid l) where
  -- an account that a sound history leads to, and that the driver agrees with
  record Reached (a : Account) : Type 0 where
    fit : IsFit a
    frames : EachFrame IsFrame a
    low : LiesBelowMaxmem a
    agrees : AgreesWith l a

  reached : (e : Seen) → IsOpening e.opening → LiesBelowMaxmem e.opening → IsSound e.opening e.history →
      AgreesWith l (account e) → Reached (account e)
  reached e opening below sound agrees = record {
    fit = fit-reached e.opening e.history opening sound;
    frames = whole-history e.opening e.history opening sound;
    low = below-history e.opening e.history (well-opening e.opening opening) sound below;
    agrees = agrees;
  }

  passed : (others : List HoldEntry) (e : Seen) → Passes d others e → Reached (account e)
  passed others e p =
      reached e p.form (subst LiesBelowMaxmem (sym p.opening) served.below) p.sound
      (agrees-passes (view_of l) d others e served.agrees served.served p)

  -- the step, by what it is
  module _ (step : Asking Turned) (is : step ≡ lane_step l s) where
    kept-at : (a : Account) → Reached a → KeepsAgreement l.id a step
    kept-at a r = subst (KeepsAgreement l.id a) (sym is) (turn-kept l s a stands r.fit r.agrees)

    laid-at : (a : Account) → Reached a → KeepsLaid l.id a step
    laid-at a r =
        subst (KeepsLaid l.id a) (sym is) (turn-laid l a stands r.agrees r.fit r.frames machine laid s)

    standing : KeepsStanding step
    standing = subst KeepsStanding (sym is) (turn-stands l s stands)

    same-lane : (r : HubReply) → (by_reply step r).lane ≡ (by_reply (lane_step l s) r).lane
    same-lane r = ap (λ (t : Asking Turned). (by_reply t r).lane) is

  pub led : (step : Asking Turned) → step ≡ lane_step l s → (x : Turned) (held : Bool) (e : Seen) →
      IsTurned d l.id step x held e → Led l s d x e
  led (Gives t) is x held e turn =
      let same : x ≡ t = turn.0 in
      let seen : e ≡ d = turn.2 in
      let r = reached d served.opening served.below served.sound served.agrees in
      let lane : t.lane ≡ x.lane = ap (λ (y : Turned). y.lane) (sym same) in
      record {
        reply = Nothing;
        is = sym lane ∙ same-lane (Gives t) is Nothing;
        stands = subst Stands lane (standing (Gives t) is);
        agrees = subst (λ (y : Seen). AgreesWith x.lane (account y)) (sym seen)
            (subst (λ k. AgreesWith k (account d)) lane (kept-at (Gives t) is (account d) r));
        laid = subst AreLaid lane (laid-at (Gives t) is (account d) r);
        new = tt;
        opening = subst (λ (y : Seen). IsOpening y.opening) (sym seen) served.opening;
        below = subst (λ (y : Seen). LiesBelowMaxmem y.opening) (sym seen) served.below;
        sound = subst (λ (y : Seen). IsSound y.opening y.history) (sym seen) served.sound;
        serves = ap (λ (y : Seen). y.serves) seen;
      }
  led (Asks c k) is x held e (inl (h, called)) =
      let holds = called.holds in
      let b = holds.between in
      let a = account b in
      let r = passed holds.others b holds.passes in
      let o : Outcome = account_step l.id c a in
      let lane : (k o.reply).lane ≡ x.lane =
      ap (λ y. (k y).lane) (sym holds.reply) ∙ ap (λ (y : Turned). y.lane) (sym called.is) in
      let own : List HoldEntry = record { lane = record { 0 = l.id }; call = c; reply = called.reply } ∷ [] in
      let now : o.account ≡ account e =
      sym (account-append b.opening b.history own) ∙ (λ i. account_of (sym holds.opening i) (sym holds.history i)) in
      record {
        reply = called.reply;
        is = ap (λ (y : Turned). y.lane) called.is ∙ same-lane (Asks c k) is called.reply;
        stands = subst Stands (ap (λ (y : Turned). y.lane) (sym called.is)) (standing (Asks c k) is called.reply);
        agrees = subst (AgreesWith x.lane) now
            (subst (λ n. AgreesWith n o.account) lane (kept-at (Asks c k) is a r));
        laid = subst AreLaid lane (laid-at (Asks c k) is a r);
        new = subst (BringsNew l) (sym holds.reply) (given-new l a r.agrees r.frames r.low laid l.id c);
        opening = subst IsOpening (sym holds.opening) holds.passes.form;
        below = subst LiesBelowMaxmem (sym (holds.opening ∙ holds.passes.opening)) served.below;
        sound = holds.sound;
        serves = holds.serves ∙ holds.passes.serves;
      }
  led (Asks c k) is x held e (inr (h, missed)) =
      let misses = missed.misses in
      let a = account e in
      let r = passed misses.others e misses.passes in
      let call : account_step l.id c a ≡ called_from a.ready l.id a = ap (λ y. account_step l.id y a)
      missed.callback in
      let none : (account_step l.id c a).reply ≡ Nothing = ap (λ (y : Outcome). y.reply) call ∙ misses.reply in
      let still : (account_step l.id c a).account ≡ a =
      ap (λ (y : Outcome). y.account) call ∙ none-taken a.ready l.id a misses.reply in
      let lane : (k (account_step l.id c a).reply).lane ≡ x.lane =
      ap (λ y. (k y).lane) none ∙ ap (λ (y : Turned). y.lane) (sym missed.is) in
      record {
        reply = Nothing;
        is = ap (λ (y : Turned). y.lane) missed.is ∙ same-lane (Asks c k) is Nothing;
        stands = subst Stands (ap (λ (y : Turned). y.lane) (sym missed.is)) (standing (Asks c k) is Nothing);
        agrees = subst (AgreesWith x.lane) still
            (subst (λ n. AgreesWith n (account_step l.id c a).account) lane (kept-at (Asks c k) is a r));
        laid = subst AreLaid lane (laid-at (Asks c k) is a r);
        new = tt;
        opening = misses.passes.form;
        below = subst LiesBelowMaxmem (sym misses.passes.opening) served.below;
        sound = misses.passes.sound;
        serves = misses.passes.serves;
      }
