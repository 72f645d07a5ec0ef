-- Of drivers that may be seated, the last one and those before it.
use Rattle.std.proofs.Common.{◌≡◌, ℕ, suc, ◌+◌, List, [], ◌∷◌, ◌++◌, length, subst, arith}
use Rattle.lane_core.specs.declared.lane.Lane.{Lane}
use Rattle.lane_core.specs.LaneIdeal.{ideal}
use Rattle.lane_run.specs.Seated.{AreFresh, IsFreshlySeated}
use Rattle.lane_threads.specs.Closing.{LanePass}
use Rattle.turnstile.specs.Pass.{splits_once}

-- the last one is fresh
pub last-fresh : (root : LanePass) (i : ℕ) (ls : List Lane) (l : Lane) → AreFresh root i (ls ++ l ∷ [])
    → IsFreshlySeated root (i + length ls) (ideal l)
last-fresh root i [] l h =
    let here : i ≡ i + 0 = omega arith in subst (λ n. IsFreshlySeated root n (ideal l)) here h.0
last-fresh root i (k ∷ ls) l h =
    let there : (i + 1) + length ls ≡ i + suc (length ls) = omega arith in
    subst (λ n. IsFreshlySeated root n (ideal l)) there (last-fresh root (i + 1) ls l h.1)

-- those before it stay fresh if a pass is split off
pub rest-fresh : (root : LanePass) (i : ℕ) (ls : List Lane) (l : Lane) → AreFresh root i (ls ++ l ∷ [])
    → AreFresh (splits_once root) i ls
rest-fresh root i [] l h = tt
rest-fresh root i (k ∷ ls) l h = (
  record { number = h.0.number; served = h.0.served; none = h.0.none },
  rest-fresh root (i + 1) ls l h.1,
)
