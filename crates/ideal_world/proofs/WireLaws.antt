-- The wires of all drivers open faithful and stay so.
use Rattle.std.proofs.Common.{◌≡◌, ◌≢◌, ℕ, true, ◌+◌, Some, sym, subst, arith, slice_get}
use Rattle.busdma_base.specs.declared.journals.journal.Actor.{Actor}
use Rattle.busdma_base.specs.declared.scenarios.scenario.Scenario.{Scenario}
use Rattle.busdma_base.specs.Scenarios.Opening.{maxmem_of}
use Rattle.busdma_base.specs.Scenarios.PageRuns.{is_own}
use Rattle.busdma_base.specs.Scenarios.Valid.{IsValid}
use Rattle.ideal_lane.specs.Asking.{by_reply}
use Rattle.ideal_lane.specs.Opening.{opening_lane}
use Rattle.ideal_lane.specs.State.{LaneState}
use Rattle.ideal_lane.specs.Turns.{lane_step}
use Rattle.ideal_wire.specs.Centre.{IsFaithful}
use Rattle.ideal_wire.proofs.Faithful.Openings.{opens-faithful}
use Rattle.ideal_wire.proofs.Faithful.Turns.{turn-stays}
use Rattle.ideal_world.specs.WellFormed.{IsWellFormed}
use Rattle.ideal_world.specs.Wires.{Wires, EachDriver, AreZero, AllFaithful, WiresFollow}
use Rattle.ideal_world.specs.World.{WorldState, step, opening_world}
use Rattle.ideal_world.proofs.Lanes.{OpensAt, opening_at}
use Rattle.ideal_world.proofs.Reached.{given-reply}
use Rattle.ideal_world.proofs.Turns.{OwnStep, each-step}

-- ---- the opening

module _ (s : Scenario) (valid : IsValid s) where
  -- a property holds of each driver at its opening
  opens : (P : ℕ → LaneState → Type 0) →
      ((i : ℕ) (l : LaneState) (o : OpensAt 0 (maxmem_of s.frames) s.drivers i l) →
      slice_get (opening_world s).lanes i ≡ Some l → P i (opening_lane i (maxmem_of s.frames) o.driver)) →
      EachDriver P (opening_world s)
  opens P each i l h =
      let o = opening_at 0 (maxmem_of s.frames) s.drivers i l h in
      let at : i ≡ 0 + i = omega arith in
      subst (P i) (sym o.opens)
      (subst (λ k. P i (opening_lane k (maxmem_of s.frames) o.driver)) at (each i l o h))

  pub opens-all-faithful : (wires : Wires) → AreZero wires (opening_world s) → AllFaithful wires (opening_world s)
  opens-all-faithful wires zero =
      opens (λ i l. IsFaithful l (wires i)) (λ i l o h. opens-faithful i (maxmem_of s.frames) o.driver (wires i)
      (λ a own. zero i l h a (subst (λ (k : LaneState). is_own k.pages a ≡ true)
      (sym o.opens) own)))

-- ---- a turn

module _ (s : Scenario) (w : WorldState) (well : IsWellFormed s w) (actor : Actor)
    (before after : Wires) (faithful : AllFaithful before w) (follow : WiresFollow w actor before after) where
  abbrev at : ℕ
  at = actor.lane.0

  others-stay : (j : ℕ) (n : LaneState) → j ≢ at → slice_get w.lanes j ≡ Some n → IsFaithful n (after j)
  others-stay j n off e = subst (IsFaithful n) (sym (follow.others j off)) (faithful j n e)

  pub wires-stay : AllFaithful after (step w actor).world
  wires-stay i n h = each-step (λ j k. IsFaithful k (after j)) w actor mine others-stay i n h
    where
      mine : (l : LaneState) (o : OwnStep w actor l) → slice_get w.lanes at ≡ Some l →
          IsFaithful (by_reply (lane_step l actor.side) o.reply).lane (after at)
      mine l o e =
          let d = well.each at l e in
          turn-stays l w.account (before at) d.stands d.agrees d.laid d.spaced d.mapped (faithful at l e) actor.side
          o.reply
          (after at) (given-reply s w well at l e o.reply o.given)
          (follow.own l (by_reply (lane_step l actor.side) o.reply).lane e o.there)
