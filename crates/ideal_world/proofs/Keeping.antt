-- A step of any actor leaves the world well formed, and its entry is the actor's.
use Rattle.std.proofs.Common.{◌≡◌, ◌≢◌, ℕ, ◌+◌, ◌≤◌, ◌<◌, length, Option, Some, None, refl, sym, ap, ◌∙◌}
use Rattle.std.proofs.Common.{subst, arith, slice_get, [], ◌∷◌, slice_set}
use Rattle.busdma_machine.specs.declared.bounce.hold.HubReply.{HubReply}
use Rattle.busdma_machine.specs.declared.bounce.hold.HubReply.TheVariants.{Nothing}
use Rattle.busdma_base.specs.declared.journals.journal.Actor.{Actor}
use Rattle.busdma_base.specs.declared.journals.journal.JournalEntry.{JournalEntry}
use Rattle.busdma_base.specs.declared.journals.journal.Side.{Side}
use Rattle.busdma_base.specs.declared.scenarios.scenario.Scenario.{Scenario}
use Rattle.busdma_machine.specs.Bounce.Account.{Account}
use Rattle.busdma_machine.specs.Bounce.AccountStep.{account_step}
use Rattle.lane_agreement.specs.Agreement.{IsFit}
use Rattle.ideal_lane.specs.Agreement.{AgreesWith, IsAllowed, KeepsAgreement}
use Rattle.ideal_lane.specs.Asking.{Asking, Gives, Asks, by_reply}
use Rattle.ideal_lane.specs.Left.{left, Falls, FallsOrStays}
use Rattle.ideal_lane.specs.Standing.{Stands, KeepsStanding}
use Rattle.ideal_lane.specs.State.{LaneState}
use Rattle.ideal_lane.specs.Turns.{Turn, Turned, Stepped, Blocked, Ended, lane_step}
use Rattle.ideal_lane.specs.View.{view_of}
use Rattle.ideal_lane.proofs.Falling.{turn-falls}
use Rattle.ideal_lane.proofs.StandingLaws.{turn-stands}
use Rattle.ideal_lane.proofs.TurnLaws.{turn-allowed, turn-kept}
use Rattle.ideal_wire.specs.Laid.{AreLaid, KeepsLaid}
use Rattle.ideal_wire.specs.Machine.{IsInMachine}
use Rattle.ideal_wire.specs.NewRuns.{BringsNew}
use Rattle.ideal_wire.specs.Served.{AreServed, KeepsServed}
use Rattle.ideal_wire.specs.Mapped.{AreMapped}
use Rattle.ideal_wire.specs.Spaced.{AreSpaced}
use Rattle.ideal_wire.proofs.Devices.KeptSpaces.{turn-spaced}
use Rattle.ideal_wire.proofs.Devices.MappedTurns.{turn-mapped}
use Rattle.ideal_wire.proofs.Laid.LaidTurns.{turn-laid}
use Rattle.ideal_wire.proofs.Tags.MachineTurns.{turn-keeps}
use Rattle.ideal_wire.proofs.Tags.ServedMaps.{served-on, turn-served}
use Rattle.ideal_world.specs.WellFormed.{IsDriverOf, IsAccountReached, IsWellFormed}
use Rattle.ideal_world.specs.World.{WorldState, replied, step_of, step, entry_of, step_entry}
use Rattle.ideal_world.proofs.Lanes.{within, length-slice_set, each_set, sum_set}
use Rattle.ideal_lane.proofs.Own.{IsLater, IsOwn, IsOwnBy, actor_of, turn-own}
use Rattle.ideal_world.proofs.Reached.{entry, given-to, reached-on, reached-fits, reached-whole, others-agree}

-- a driver has no more left to do, together with the syncs that it counted for each zone
abbrev SpendsNoMore : LaneState → LaneState → Type 0
SpendsNoMore l m = (z : ℕ) → m.shares z + left m ≤ l.shares z + left l

spent : (l m : LaneState) (t : Turn) → IsLater l m → Falls l m t → SpendsNoMore l m
spent l m (Stepped entry) later f z = omega (arith, f, later.few z)
spent l m Blocked later f z = subst (λ (k : LaneState). k.shares z + left k ≤ l.shares z + left l) (sym f)
    (omega arith)
spent l m Ended later f z = subst (λ (k : LaneState). k.shares z + left k ≤ l.shares z + left l) (sym f) (omega arith)

module _ (s : Scenario) (w : WorldState) (well : IsWellFormed s w) where
  pub fits : IsFit w.account
  fits = reached-fits s w.account well.valid well.reached

  module _ (i : ℕ) (l : LaneState) (there : slice_get w.lanes i ≡ Some l) where
    own : IsDriverOf s w.account i l
    own = well.each i l there

    pub below : l.id < length s.drivers
    below = omega (arith, within w.lanes i l there, own.number, well.count)

    -- the driver's state after its step, and the account after it
    record IsAfter (a : Account) (m : LaneState) : Type 0 where
      later : IsLater l m
      spends : SpendsNoMore l m
      stands : Stands m
      agrees : AgreesWith m a
      machine : IsInMachine m
      laid : AreLaid m
      spaced : AreSpaced m
      mapped : AreMapped m
      served : AreServed m a

    -- the driver has made its step, the others agree with the account too, and the zones of it serve their tags
    changed : (a : Account) (m : LaneState) → IsAfter a m →
        ((j : ℕ) (n : LaneState) → j ≢ i → slice_get w.lanes j ≡ Some n → AgreesWith n a × AreServed n a) →
        IsAccountReached s a →
        IsWellFormed s (record { lanes = slice_set w.lanes i m; account = a })
    changed a m after others reached = record {
      valid = well.valid;
      count = length-slice_set w.lanes i m ∙ well.count;
      each = each_set (IsDriverOf s a) w.lanes i m
          (record {
            driver = own.driver;
            there = own.there;
            number = after.later.same_id ∙ own.number;
            script = after.later.same_script ∙ own.script;
            pages = after.later.same_pages ∙ own.pages;
            stands = after.stands;
            agrees = after.agrees;
            machine = after.machine;
            laid = after.laid;
            spaced = after.spaced;
            mapped = after.mapped;
            served = after.served;
          })
          (λ j n off e. let d = well.each j n e in record {
            driver = d.driver;
            there = d.there;
            number = d.number;
            script = d.script;
            pages = d.pages;
            stands = d.stands;
            agrees = (others j n off e).0;
            machine = d.machine;
            laid = d.laid;
            spaced = d.spaced;
            mapped = d.mapped;
            served = (others j n off e).1;
          });
      reached = reached;
      few = λ z.
          omega (
            arith,
            well.few z,
            after.spends z,
            sum_set left w.lanes i l m there,
            sum_set (λ (k : LaneState). k.shares z) w.lanes i l m there,
          );
    }

    apart : (j : ℕ) (n : LaneState) → j ≢ i → slice_get w.lanes j ≡ Some n → l.id ≢ n.id
    apart j n off e h = off (omega (arith, h, own.number, (well.each j n e).number))

    -- what a step of the driver keeps, with the account's reply
    record IsStep (x : Asking Turned) : Type 0 where
      later : (r : HubReply) → IsLater l (by_reply x r).lane
      falls : FallsOrStays l w.account x
      stands : KeepsStanding x
      may : IsAllowed l.id w.account x
      agrees : KeepsAgreement l.id w.account x
      machine : (r : HubReply) → BringsNew l r → IsInMachine (by_reply x r).lane
      laid : KeepsLaid l.id w.account x
      spaced : (r : HubReply) → AreSpaced (by_reply x r).lane
      mapped : (r : HubReply) → AreMapped (by_reply x r).lane
      served : KeepsServed l.id w.account x

    kept : (x : Asking Turned) → IsStep x → IsWellFormed s (replied w i l x).world
    kept (Gives t) step =
        changed w.account t.lane (record {
          later = step.later Nothing;
          spends = spent l t.lane t.turn (step.later Nothing) step.falls;
          stands = step.stands;
          agrees = step.agrees;
          machine = step.machine Nothing tt;
          laid = step.laid;
          spaced = step.spaced Nothing;
          mapped = step.mapped Nothing;
          served = step.served;
        }) (λ j n off e. let d = well.each j n e in (d.agrees, d.served)) well.reached
    kept (Asks c k) step =
        let r : HubReply = (account_step l.id c w.account).reply in
        changed (account_step l.id c w.account).account (k r).lane (record {
          later = step.later r;
          spends = spent l (k r).lane (k r).turn (step.later r) step.falls;
          stands = step.stands r;
          agrees = step.agrees;
          machine = step.machine r (given-to s w well i l there c);
          laid = step.laid;
          spaced = step.spaced r;
          mapped = step.mapped r;
          served = step.served;
        }) (λ j n off e. let d = well.each j n e in (
          others-agree (view_of n) l.id c w.account fits.well (apart j n off e) step.may d.agrees,
          served-on n d.stands w.account d.machine d.served (entry l.id c w.account ∷ []),
        ))
        (reached-on s l.id c w.account below step.may well.reached)

    pub driver-keeps : (side : Side) → IsWellFormed s (replied w i l (lane_step l side)).world
    driver-keeps side = kept (lane_step l side) (record {
      later = λ r. (turn-own l side r).later;
      falls = turn-falls l side w.account own.stands own.machine.clusters fits own.agrees;
      stands = turn-stands l side own.stands;
      may = turn-allowed l side w.account own.stands own.agrees;
      agrees = turn-kept l side w.account own.stands fits own.agrees;
      machine = turn-keeps l own.machine side;
      laid =
          turn-laid l w.account own.stands own.agrees fits (reached-whole s w.account well.valid well.reached)
          own.machine own.laid side;
      spaced = turn-spaced l own.stands own.laid own.machine own.spaced side;
      mapped = turn-mapped l own.stands own.laid own.machine own.spaced own.mapped side;
      served = turn-served l own.stands w.account own.machine own.served side;
    })

  pub step-keeps : (actor : Actor) → IsWellFormed s (step w actor).world
  step-keeps actor = by (slice_get w.lanes actor.lane.0) refl
    where
      by : (o : Option LaneState) → slice_get w.lanes actor.lane.0 ≡ o → IsWellFormed s (step_of w actor o).world
      by None e = well
      by (Some l) e = driver-keeps actor.lane.0 l e actor.side

  -- the account allows the call of a step
  pub step-allowed : (i : ℕ) (l : LaneState) (side : Side) → slice_get w.lanes i ≡ Some l →
      IsAllowed l.id w.account (lane_step l side)
  step-allowed i l side e =
      turn-allowed l side w.account (well.each i l e).stands (well.each i l e).agrees

  -- an entry names its actor
  named : (id : ℕ) (actor : Actor) (t : Turn) (e : JournalEntry) → id ≡ actor.lane.0 → IsOwnBy id actor.side t →
      entry_of t ≡ Some e → e.actor ≡ actor
  named id actor (Stepped entry) e same own h =
      let is : entry ≡ e = cc in
      subst (λ (x : JournalEntry). x.actor ≡ actor) is (own ∙ ap (actor_of actor.side) same)
  named id actor Blocked e same own h = absurd (cc)
  named id actor Ended e same own h = absurd (cc)

  pub step-named : (actor : Actor) (e : JournalEntry) → step_entry w actor ≡ Some e → e.actor ≡ actor
  step-named actor e = by (slice_get w.lanes actor.lane.0) refl
    where
      driver : (l : LaneState) (x : Asking Turned) → l.id ≡ actor.lane.0 →
          ((r : HubReply) → IsOwn l actor.side (by_reply x r)) →
          entry_of (replied w actor.lane.0 l x).turn ≡ Some e → e.actor ≡ actor
      driver l (Gives t) same own h = named l.id actor t.turn e same (own Nothing).actor h
      driver l (Asks c k) same own h =
          let r : HubReply = (account_step l.id c w.account).reply in
          named l.id actor (k r).turn e same (own r).actor h

      by : (o : Option LaneState) → slice_get w.lanes actor.lane.0 ≡ o →
          entry_of (step_of w actor o).turn ≡ Some e → e.actor ≡ actor
      by None f h = absurd (cc)
      by (Some l) f h =
          driver l (lane_step l actor.side) (well.each actor.lane.0 l f).number (turn-own l actor.side) h
