-- What a driver's turn makes of the world and of a run.
use Rattle.std.proofs.Common.{◌≡◌, ℕ, ◌+◌, ◌++◌, ◌<◌, ◌≤◌, Bool, List, length, get_or, Some, None, map, refl}
use Rattle.std.proofs.Common.{sym, ap, ◌∙◌, subst, arith, append-nil, slice_get, slice_set, if◌then◌else◌}
use Rattle.std.specs.Prelude.{option_map, Result, Ok, Err, IfOk, OnErr, OnOk}
use Rattle.std.proofs.lemmas.List.{length-map, map-set}
use Rattle.std.proofs.lemmas.Option.{slice_get-map, slice_get_past, slice_get_read}
use mathlib.Core.Logic.{∥∥₁_map}
use Rattle.busdma_base.specs.declared.journals.journal.Actor.{Actor}
use Rattle.busdma_base.specs.declared.journals.journal.JournalEntry.{JournalEntry}
use Rattle.busdma_base.specs.declared.scenarios.scenario.Scenario.{Scenario}
use Rattle.busdma_machine.specs.Bounce.Door.{account}
use Rattle.busdma_machine.specs.Bounce.EachFrame.{LiesBelowMaxmem}
use Rattle.busdma_machine.specs.Bounce.History.{IsOpening, IsSound}
use Rattle.busdma_base.proofs.OpeningLaws.{below-opening}
use Rattle.bounce_hub.specs.Seen.{HubSeen, door}
use Rattle.lane_core.specs.declared.lane.Lane.{Lane}
use Rattle.lane_core.specs.LaneIdeal.{ideal}
use Rattle.lane_state.specs.Served.{IsServed}
use Rattle.lane_turns.specs.TakenTurns.{IsTurned, answered, is_held}
use Rattle.lane_state.specs.Doing.{IsUndone}
use Rattle.lane_turns.specs.declared.turn.Turn as told
use Rattle.lane_turns.specs.declared.turn.Turn.TheVariants as held
use Rattle.ideal_lane.specs.Turns.{Turn, lane_step}
use Rattle.ideal_world.specs.Holds.{holds_at, step_holds}
use Rattle.ideal_world.specs.Legal.{Run, noted, turn}
use Rattle.ideal_world.specs.WellFormed.{IsWellFormed}
use Rattle.ideal_world.specs.World.{WorldState, WorldTurned, replied, step_of, step, entry_of}
use Rattle.ideal_world.proofs.Falling.{step-rests}
use Rattle.ideal_world.proofs.Keeping.{step-keeps}
use Rattle.ideal_world.proofs.Lanes.{set_same}
use Rattle.world_core.specs.Kept.{IsKept, kept_world}
use Rattle.world_core.proofs.Agreeing.{agrees-of, below-of}
use Rattle.world_core.proofs.Turning.{Makes, made-holds, makes, undone-account}

-- the driver in a world, by its number
pub lane_found : (lanes : List Lane) (i : ℕ) (l : Lane) → i < length lanes → l ≡ get_or lanes i l →
    slice_get (map ideal lanes) i ≡ Some (ideal l)
lane_found lanes i l lt h =
    slice_get-map ideal lanes i ∙ ap (option_map ideal) (slice_get_read lanes (length lanes) i l refl lt h)

module _ (s : Scenario) (lanes : List Lane) (hub : HubSeen) where
  abbrev world : WorldState
  world = kept_world lanes hub

  -- the hub serves a driver of a world
  pub serves : (i : ℕ) (l : Lane) → slice_get (map ideal lanes) i ≡ Some (ideal l) → ∥ IsKept s lanes hub ∥₁ →
      IsOpening hub.opening → IsSound hub.opening hub.history → IsServed (ideal l) (door hub)
  serves i l found kept form sound = record {
    served = refl;
    opening = form;
    below = below-of hub.opening kept (λ k. subst LiesBelowMaxmem (sym k.opening) (below-opening s));
    sound = sound;
    agrees = agrees-of (ideal l) (account (door hub)) kept (λ k. (k.well.each i (ideal l) found).agrees);
  }

  -- what a turn leaves is kept
  pub turn-kept : (more : List Lane) (hub-new : HubSeen) (actor : Actor) (t : Turn) →
      record { world = kept_world more hub-new; turn = t } ≡ step world actor → hub-new.opening ≡ hub.opening →
      ∥ IsKept s lanes hub ∥₁ → ∥ IsKept s more hub-new ∥₁
  turn-kept more hub-new actor t done same kept = ∥∥₁_map kept (λ k. record {
    well = subst (IsWellFormed s) (sym (ap (λ (x : WorldTurned). x.world) done)) (step-keeps s world k.well actor);
    opening = same ∙ k.opening;
  })

  -- lanes and a hub of the same world and opening are kept too
  pub stay-kept : (more : List Lane) (hub-new : HubSeen) → kept_world more hub-new ≡ world →
      hub-new.opening ≡ hub.opening → ∥ IsKept s lanes hub ∥₁ → ∥ IsKept s more hub-new ∥₁
  stay-kept more hub-new is same kept = ∥∥₁_map kept (λ k. record {
    well = subst (IsWellFormed s) (sym is) k.well;
    opening = same ∙ k.opening;
  })

-- an actor that has no driver adds nothing to the history
pub no-driver : (lanes : List Lane) (i : ℕ) → length lanes ≤ i → slice_get (map ideal lanes) i ≡ None
no-driver lanes i past = slice_get_past (map ideal lanes) i (omega (arith, length-map lanes ideal, past))

pub no-holds : (lanes : List Lane) (hub : HubSeen) (actor : Actor) → length lanes ≤ actor.lane.0 →
    hub.history ≡ hub.history ++ step_holds (kept_world lanes hub) actor
no-holds lanes hub actor past =
    sym (append-nil hub.history)
    ∙ ap (λ o. hub.history ++ holds_at (kept_world lanes hub) actor o) (sym (no-driver lanes actor.lane.0 past))

-- a driver's turn at the hub
module _ (lanes : List Lane) (hub hub-new : HubSeen) (actor : Actor) (l m : Lane) (lt : actor.lane.0 < length lanes)
    (found : l ≡ get_or lanes actor.lane.0 l) where
  there : slice_get (map ideal lanes) actor.lane.0 ≡ Some (ideal l)
  there = lane_found lanes actor.lane.0 l lt found

  made : (t : told.Turn) → IsTurned (door hub) (ideal l).id (lane_step (ideal l) actor.side)
      (record { lane = ideal m; turn = answered t }) (is_held t) (door hub-new) →
      Makes (map ideal lanes) actor.lane.0 hub hub-new (is_held t) (record { lane = ideal m; turn = answered t })
      (replied (kept_world lanes hub) actor.lane.0 (ideal l) (lane_step (ideal l) actor.side))
  made t turn =
      makes (map ideal lanes) actor.lane.0 (ideal l) hub hub-new (lane_step (ideal l) actor.side)
      (record { lane = ideal m; turn = answered t }) (is_held t) turn

  -- the turn is its actor's
  pub took : (t : told.Turn) → IsTurned (door hub) (ideal l).id (lane_step (ideal l) actor.side)
      (record { lane = ideal m; turn = answered t }) (is_held t) (door hub-new) →
      record { world = kept_world (slice_set lanes actor.lane.0 m) hub-new; turn = answered t }
      ≡ step (kept_world lanes hub) actor
  took t turn =
      ap (λ ls. record { world = record (kept_world lanes hub-new) { lanes = ls }; turn = answered t })
      (map-set ideal lanes actor.lane.0 m)
      ∙ (made t turn).world ∙ sym (ap (step_of (kept_world lanes hub) actor) there)

  pub took-holds : (t : told.Turn) → IsTurned (door hub) (ideal l).id (lane_step (ideal l) actor.side)
      (record { lane = ideal m; turn = answered t }) (is_held t) (door hub-new) →
      length hub-new.history ≡ length hub.history + (if is_held t then 1 else 0)
  took-holds t turn = (made t turn).holds

  -- the turn adds its actor's holds to the history
  pub took-history : (t : told.Turn) → IsTurned (door hub) (ideal l).id (lane_step (ideal l) actor.side)
      (record { lane = ideal m; turn = answered t }) (is_held t) (door hub-new) →
      hub-new.history ≡ hub.history ++ step_holds (kept_world lanes hub) actor
  took-history t turn =
      made-holds (ideal l).id hub hub-new (lane_step (ideal l) actor.side)
      (record { lane = ideal m; turn = answered t }) (is_held t) turn
      ∙ sym (ap (λ o. hub.history ++ holds_at (kept_world lanes hub) actor o) there)

  pub took-opening : (t : told.Turn) → IsTurned (door hub) (ideal l).id (lane_step (ideal l) actor.side)
      (record { lane = ideal m; turn = answered t }) (is_held t) (door hub-new) → hub-new.opening ≡ hub.opening
  took-opening t turn = (made t turn).opening

  -- if memory runs out, the turn leaves the world unchanged
  pub took-none : ideal m ≡ ideal l → IsUndone (door hub) (door hub-new) →
      kept_world (slice_set lanes actor.lane.0 m) hub-new ≡ kept_world lanes hub
  took-none same undone = λ j. record {
    lanes = (map-set ideal lanes actor.lane.0 m
        ∙ set_same (map ideal lanes) actor.lane.0 (ideal l) (ideal m) there same) j;
    account = undone-account hub hub-new undone j;
  }

-- a turn that is no step has no entry
pub no_entry : (t : told.Turn) → ((e : JournalEntry) (h : Bool) → t ≡ held.Stepped e h → ⊥) →
    entry_of (answered t) ≡ None
no_entry (held.Stepped e h) f = absurd (f e h refl)
no_entry held.Blocked f = refl
no_entry held.Ended f = refl

-- a turn without an entry leaves the run as it was
pub skips : (r : Run) (actor : Actor) (after : WorldState) (t : Turn) →
    record { world = after; turn = t } ≡ step r.world actor → entry_of t ≡ None →
    record { world = after; entries = r.entries } ≡ turn r actor
skips r actor after t done none =
    let is = sym (ap (λ (x : WorldTurned). entry_of x.turn) done) ∙ none in
    ap (λ (x : WorldTurned). record { world = x.world; entries = r.entries }) done
    ∙ (ap (λ y. record { world = y; entries = r.entries }) (step-rests r.world actor is)
    ∙ sym (ap (noted r (step r.world actor).world) is))

-- what both ends of a call lead to
pub at_either : {T E : Type 0} {Z : Type 0} (r : Result T E) (P : T → Type 0) (Q R : Type 0) → IfOk r P → OnErr r Q →
    OnErr r R → ((t : T) → P t → Z) → (Q → R → Z) → Z
at_either (Ok t) P Q R p q r f g = f t p
at_either (Err e) P Q R p q r f g = g q r

-- what two facts of a failure lead to
pub on_both : {T E : Type 0} (r : Result T E) (Q R S : Type 0) → OnErr r Q → OnErr r R → (Q → R → S) → OnErr r S
on_both (Ok t) Q R S q r f = tt
on_both (Err e) Q R S q r f = f q r

-- what two facts of a success lead to
pub ok_both : {T E : Type 0} (r : Result T E) (P : T → Type 0) (Q S : Type 0) → IfOk r P → OnOk r Q →
    ((t : T) → P t → Q → S) → OnOk r S
ok_both (Ok t) P Q S p q f = f t p q
ok_both (Err e) P Q S p q f = tt
