-- The bytes that all drivers really hold after a turn: those of the actor's driver follow the turn, and the others are
-- unchanged.
use Rattle.std.proofs.Common.{◌≡◌, ◌≢◌, ℕ, zero, suc, ◌<◌, ◌≤◌, List, [], ◌∷◌, length, get_or, map, Option, Some, None}
use Rattle.std.proofs.Common.{refl, sym, ap, ◌∙◌, subst, arith, slice_get, slice_set, ◌⊎◌, inl, inr}
use Rattle.std.proofs.lemmas.Bool.{cases_order}
use Rattle.std.proofs.lemmas.List.{map-set}
use Rattle.std.proofs.lemmas.Option.{slice_get_read}
use Rattle.busdma_base.specs.declared.journals.journal.Actor.{Actor}
use Rattle.busdma_machine.specs.Machine.Wire.{Wire}
use Rattle.bounce_hub.specs.Seen.{HubSeen}
use Rattle.lane_core.specs.declared.lane.Lane.{Lane}
use Rattle.lane_core.specs.LaneIdeal.{ideal, wire}
use Rattle.ideal_lane.specs.State.{LaneState}
use Rattle.ideal_lane.specs.Turns.{Turn}
use Rattle.ideal_wire.specs.WireStep.{Follows, wire_lane_step}
use Rattle.ideal_world.specs.Wires.{WiresFollow}
use Rattle.ideal_world.specs.World.{WorldTurned, step}
use Rattle.ideal_world.proofs.Lanes.{set-here, within}
use Rattle.world_core.specs.Kept.{kept_world}
use Rattle.world_core.specs.Wires.{WiresStay, wire_in, wires_in}
use Rattle.world_core.proofs.Taking.{lane_found, no-driver}

lane-here : (lanes : List Lane) (k : ℕ) (m : Lane) → k < length lanes → slice_get (slice_set lanes k m) k ≡ Some m
lane-here [] k m lt = absurd (omega (arith, lt))
lane-here (x ∷ lanes) zero m lt = refl
lane-here (x ∷ lanes) (suc k) m lt = lane-here lanes k m (omega (arith, lt))

lane-other : (lanes : List Lane) (k j : ℕ) (m : Lane) → j ≢ k → slice_get (slice_set lanes k m) j ≡ slice_get lanes j
lane-other [] k j m off = refl
lane-other (x ∷ lanes) zero zero m off = absurd (off refl)
lane-other (x ∷ lanes) zero (suc j) m off = refl
lane-other (x ∷ lanes) (suc k) zero m off = refl
lane-other (x ∷ lanes) (suc k) (suc j) m off = lane-other lanes k j m (λ e. off (ap suc e))

one-some : {A : Type 0} (o : Option A) (x y : A) → o ≡ Some x → o ≡ Some y → x ≡ y
one-some o x y e f = cc

-- bytes that are unchanged follow themselves
follows-same : (l : LaneState) (w : Wire) → Follows l l w w
follows-same l w = record {
  own = λ a b c. refl;
  pages = λ m a b c. refl;
  known = λ a v none is. absurd (cc);
}

-- the turn of an actor without a driver leaves all bytes unchanged
pub no-wires : (lanes : List Lane) (hub : HubSeen) (actor : Actor) → length lanes ≤ actor.lane.0 →
    WiresFollow (kept_world lanes hub) actor (wires_in lanes) (wires_in lanes)
no-wires lanes hub actor past =
    let none : slice_get (map ideal lanes) actor.lane.0 ≡ None = no-driver lanes actor.lane.0 past in
    record {
      own = λ a b ha hb. absurd (cc (none, ha));
      others = λ j off. refl;
    }

module _ (lanes : List Lane) (hub hub-new : HubSeen) (actor : Actor) (l m : Lane) (lt : actor.lane.0 < length lanes)
    (found : l ≡ get_or lanes actor.lane.0 l) where
  abbrev k : ℕ
  k = actor.lane.0

  before-here : wires_in lanes k ≡ wire l
  before-here = ap wire_in (slice_get_read lanes (length lanes) k l refl lt found)

  after-here : wires_in (slice_set lanes k m) k ≡ wire m
  after-here = ap wire_in (lane-here lanes k m lt)

  there : slice_get (map ideal lanes) k ≡ Some (ideal l)
  there = lane_found lanes k l lt found

  pub wires-follow : (t : Turn) →
      record { world = kept_world (slice_set lanes actor.lane.0 m) hub-new; turn = t } ≡ step (kept_world lanes hub)
      actor
      →
      Follows (ideal l) (ideal m) (wire_lane_step (ideal l) actor.side (wire l)) (wire m) →
      WiresFollow (kept_world lanes hub) actor (wires_in lanes) (wires_in (slice_set lanes actor.lane.0 m))
  wires-follow t done follows = record {
    own = λ a b ha hb.
        (let first : ideal l ≡ a = one-some (slice_get (map ideal lanes) k) (ideal l) a there ha in
        let now : slice_get (step (kept_world lanes hub) actor).world.lanes k ≡ Some (ideal m) =
        ap (λ (x : WorldTurned). slice_get x.world.lanes k) (sym done)
        ∙ ap (λ ls. slice_get ls k) (map-set ideal lanes k m)
        ∙ set-here (map ideal lanes) k (ideal m) (within (map ideal lanes) k (ideal l) there) in
        let last : ideal m ≡ b =
        one-some (slice_get (step (kept_world lanes hub) actor).world.lanes k) (ideal m) b now hb in
        subst (λ x. Follows a b (wire_lane_step a actor.side x) (wires_in (slice_set lanes k m) k)) (sym before-here)
        (subst (λ x. Follows a b (wire_lane_step a actor.side (wire l)) x) (sym after-here)
        (subst (λ x. Follows a x (wire_lane_step a actor.side (wire l)) (wire m)) last
        (subst (λ x. Follows x (ideal m) (wire_lane_step x actor.side (wire l)) (wire m)) first follows))));
    others = λ j off. ap wire_in (lane-other lanes k j m off);
  }

  -- if memory runs out
  pub wires-stay : Follows (ideal l) (ideal m) (wire l) (wire m) → ideal m ≡ ideal l →
      WiresStay (kept_world lanes hub) (wires_in lanes) (wires_in (slice_set lanes actor.lane.0 m))
  wires-stay follows same j a ha = by (cases_order j k)
    where
      other : j ≢ k → Follows a a (wires_in lanes j) (wires_in (slice_set lanes k m) j)
      other off =
          subst (Follows a a (wires_in lanes j)) (sym (ap wire_in (lane-other lanes k j m off)))
          (follows-same a (wires_in lanes j))

      here : j ≡ k → Follows a a (wires_in lanes j) (wires_in (slice_set lanes k m) j)
      here e =
          let first : ideal l ≡ a =
          one-some (slice_get (map ideal lanes) k) (ideal l) a there (ap (slice_get (map ideal lanes)) (sym e) ∙ ha) in
          subst (λ n. Follows a a (wires_in lanes n) (wires_in (slice_set lanes k m) n)) (sym e)
          (subst (λ x. Follows a a x (wires_in (slice_set lanes k m) k)) (sym before-here)
          (subst (λ x. Follows a a (wire l) x) (sym after-here)
          (subst (λ x. Follows x x (wire l) (wire m)) first
          (subst (λ x. Follows (ideal l) x (wire l) (wire m)) same follows))))

      by : (j ≡ k) ⊎ ((j < k) ⊎ (k < j)) →
          Follows a a (wires_in lanes j) (wires_in (slice_set lanes actor.lane.0 m) j)
      by (inl e) = here e
      by (inr (inl low)) = other (λ e. absurd (omega (arith, low, e)))
      by (inr (inr high)) = other (λ e. absurd (omega (arith, high, e)))
