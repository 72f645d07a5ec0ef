-- `AgreesWith`, the number of a driver, and the bound of an account's frames by the end of the machine's memory have at
-- most one proof each, so they can be taken out of what a world keeps.
use Rattle.std.proofs.Common.{◌≡◌, ℕ}
use Rattle.std.proofs.Props.{props}
use mathlib.Core.Logic.{∥∥₁_elim}
use Rattle.busdma_machine.specs.Bounce.Account.{Account}
use Rattle.busdma_machine.specs.Bounce.EachFrame.{LiesBelowMaxmem}
use Rattle.ideal_lane.specs.Agreement.{AgreesWith}
use Rattle.ideal_lane.specs.State.{LaneState}

AgreesWith-prop : (l : LaneState) (a : Account) → IsProp (AgreesWith l a)
AgreesWith-prop l a = hlevel (props)

pub agrees-of : {X : Type 0} (l : LaneState) (a : Account) → ∥ X ∥₁ → (X → AgreesWith l a) → AgreesWith l a
agrees-of {X} l a kept by = ∥∥₁_elim kept (AgreesWith-prop l a) by

number-prop : (l : LaneState) (i : ℕ) → IsProp (l.id ≡ i)
number-prop l i = hlevel (props)

pub number-of : {X : Type 0} (l : LaneState) (i : ℕ) → ∥ X ∥₁ → (X → l.id ≡ i) → l.id ≡ i
number-of {X} l i kept by = ∥∥₁_elim kept (number-prop l i) by

below-prop : (a : Account) → IsProp (LiesBelowMaxmem a)
below-prop a = hlevel (props)

pub below-of : {X : Type 0} (a : Account) → ∥ X ∥₁ → (X → LiesBelowMaxmem a) → LiesBelowMaxmem a
below-of {X} a kept by = ∥∥₁_elim kept (below-prop a) by
