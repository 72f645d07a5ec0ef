-- `Stands` has at most one proof, so it can be taken out of what a lane keeps.
use Rattle.std.proofs.Common.{◌≡◌, ℕ, true, Option, Some, None, sym, ap, ◌∙◌, unwrap_or}
use Rattle.std.proofs.Props.{props}
use mathlib.Core.HLevel.{is_prop→PathP}
use mathlib.Core.Logic.{∥∥₁_elim}
use base.Stored.{Coded-set}
use Rattle.std.specs.Ordering.{nat_cmp}
use Rattle.std.specs.FinMap.{FinMap, contains_key, get}
use Rattle.busdma_machine.specs.contracts.tags.tag.TagLimits as limits
use Rattle.ideal_lane.specs.State.{LaneState, LaneMap, LaneMemory, LaneTag, Stage, Idle, Waiting, Loaded, Returning}
use Rattle.ideal_lane.specs.Standing.{IsPageless, Stands, StandsAt, is_direct}

LaneTag-set : IsSet LaneTag
LaneTag-set = hlevel (props, Coded-set limits.the_row.coded)

found-prop : (o : Option LaneTag) (t : LaneTag) → IsProp (o ≡ Some t)
found-prop o t = hlevel (props, LaneTag-set)

IsPageless-prop : (s : Stage) → IsProp (IsPageless s)
IsPageless-prop Idle = hlevel (props)
IsPageless-prop (Waiting w) = λ x y. absurd x
IsPageless-prop (Loaded bounced segments pages) = hlevel (props)
IsPageless-prop Returning = hlevel (props)

module _ (maxmem : ℕ) (tags : FinMap nat_cmp LaneTag) (mems : FinMap nat_cmp LaneMemory) (k : ℕ) (o : LaneMap) where
  memory-prop : IsProp (contains_key mems k ≡ true → o.zone ≡ None)
  memory-prop = hlevel (props)

  device-prop : (t : LaneTag) → IsProp (t.device ≡ true → o.zone ≡ None)
  device-prop t = hlevel (props)

  direct-prop : (t : LaneTag) → IsProp (o.zone ≡ None → is_direct maxmem mems k t ≡ true)
  direct-prop t = hlevel (props)

  pageless-prop : IsProp (o.zone ≡ None → IsPageless o.stage)
  pageless-prop = hlevel (props, IsPageless-prop)

  pub StandsAt-prop : IsProp (StandsAt maxmem tags mems k o)
  StandsAt-prop x y =
      let p : x.tag ≡ y.tag = ap (λ (t : Option LaneTag). unwrap_or t x.tag) (sym x.there ∙ y.there) in
      λ i. record {
        tag = p i;
        there = is_prop→PathP (λ j. get tags o.tag ≡ Some (p j)) (λ j. found-prop (get tags o.tag) (p j)) x.there
            y.there i;
        memory = memory-prop x.memory y.memory i;
        device = is_prop→PathP (λ j. (p j).device ≡ true → o.zone ≡ None) (λ j. device-prop (p j)) x.device y.device i;
        direct = is_prop→PathP (λ j. o.zone ≡ None → is_direct maxmem mems k (p j) ≡ true) (λ j. direct-prop (p j))
            x.direct y.direct i;
        pageless = pageless-prop x.pageless y.pageless i;
      }

Stands-prop : (l : LaneState) → IsProp (Stands l)
Stands-prop l = hlevel (props, StandsAt-prop)

pub stands-of : (l : LaneState) → ∥ Stands l ∥₁ → Stands l
stands-of l s = ∥∥₁_elim s (Stands-prop l) (λ x. x)
