-- The counts of zones, and how many syncs of all drivers copied.
use Rattle.std.proofs.Common.{◌≡◌, ℕ, zero, suc, ◌+◌, ◌^◌, ◌<◌, ◌≤◌, List, [], ◌∷◌, length, take, get_or, map}
use Rattle.std.proofs.Common.{refl}
use Rattle.std.proofs.Common.{ap, ◌∙◌, arith, add-one}
use Rattle.std.specs.List.{sum_by}
use Rattle.std.proofs.Math.Seq.{take-suc}
use Rattle.std.proofs.Props.{props}
use Rattle.std.proofs.lemmas.List.Sums.{sum_by-cons, sum_by-append}
use mathlib.Core.Logic.{∥∥₁_elim}
use Rattle.busdma_machine.specs.declared.bounce.zone.ZoneCounts.{ZoneCounts}
use Rattle.busdma_base.specs.declared.scenarios.scenario.Scenario.{Scenario}
use Rattle.busdma_machine.specs.Bounce.Account.{Zone, counts}
use Rattle.bounce_hub.specs.Seen.{HubSeen}
use Rattle.lane_core.specs.declared.lane.Lane.{Lane}
use Rattle.lane_core.specs.LaneIdeal.{ideal}
use Rattle.ideal_lane.specs.State.{LaneState}
use Rattle.ideal_world.specs.World.{WorldState, bounced, counts_from}
use Rattle.ideal_world.proofs.Few.{bounced-few}
use Rattle.world_core.specs.Kept.{IsKept, kept_world}

-- counts of zones, one by one
pub counts-are : (w : WorldState) (z : ℕ) (zones : List Zone) (cs : List ZoneCounts) → length cs ≡ length zones →
    ((k : ℕ) (d : ZoneCounts) → k < length cs → get_or cs k d ≡ counts w.account (bounced w (z + k)) (z + k)) →
    cs ≡ counts_from w z zones
counts-are w z [] [] count each = refl
counts-are w z [] (c ∷ cs) count each = absurd (omega (arith, count))
counts-are w z (zone ∷ zones) [] count each = absurd (omega (arith, count))
counts-are w z (zone ∷ zones) (c ∷ cs) count each =
    let here : z + 0 ≡ z = omega arith in
    (λ i. (each 0 c (omega arith) ∙ ap (λ k. counts w.account (bounced w k) k) here) i
    ∷ counts-are w (z + 1) zones cs (omega (arith, count))
    (λ k d l. let next : z + suc k ≡ (z + 1) + k = omega arith in
    each (suc k) d (omega (arith, l)) ∙ ap (λ j. counts w.account (bounced w j) j) next) i)

-- the sum of the lanes' shares of a zone
abbrev pub share-sum : ℕ → List Lane → ℕ
share-sum z lanes = sum_by (λ (l : Lane). (ideal l).shares z) lanes

pub shares-are : (z : ℕ) (lanes : List Lane) →
    share-sum z lanes ≡ sum_by (λ (l : LaneState). l.shares z) (map ideal lanes)
shares-are z [] = refl
shares-are z (l ∷ lanes) =
    omega (
      arith,
      sum_by-cons (λ (x : Lane). (ideal x).shares z) l lanes,
      sum_by-cons (λ (x : LaneState). x.shares z) (ideal l) (map ideal lanes),
      shares-are z lanes,
    )

-- the sum of the shares with one more lane
pub share-next : (z : ℕ) (lanes : List Lane) (i : ℕ) (d : Lane) → i < length lanes →
    share-sum z (take (i + 1) lanes) ≡ share-sum z (take i lanes) + (ideal (get_or lanes i d)).shares z
share-next z lanes i d lt =
    let l : Lane = get_or lanes i d in
    ap (share-sum z) (ap (λ k. take k lanes) (add-one i) ∙ take-suc lanes i d lt)
    ∙ omega (
      arith,
      sum_by-append (λ (x : Lane). (ideal x).shares z) (take i lanes) (l ∷ []),
      sum_by-cons (λ (x : Lane). (ideal x).shares z) l [],
    )

share-part : (z : ℕ) (lanes : List Lane) (i : ℕ) → share-sum z (take i lanes) ≤ share-sum z lanes
share-part z [] zero = omega arith
share-part z [] (suc i) = omega arith
share-part z (l ∷ lanes) zero = omega arith
share-part z (l ∷ lanes) (suc i) =
    omega (
      arith,
      sum_by-cons (λ (x : Lane). (ideal x).shares z) l lanes,
      sum_by-cons (λ (x : Lane). (ideal x).shares z) l (take i lanes),
      share-part z lanes i,
    )

-- the sum of the shares is below 2^64
pub shares-fit : (s : Scenario) (lanes : List Lane) (hub : HubSeen) (z i : ℕ) → ∥ IsKept s lanes hub ∥₁ →
    share-sum z (take i lanes) < 2 ^ 64
shares-fit s lanes hub z i kept = ∥∥₁_elim kept fit-prop (λ k.
    omega (arith, share-part z lanes i, shares-are z lanes, bounced-few s (kept_world lanes hub) z k.well))
  where
    fit-prop : IsProp (share-sum z (take i lanes) < 2 ^ 64)
    fit-prop = hlevel (props)
