-- The transfer of each round is small, whatever numbers are drawn.
use Rattle.std.proofs.Common.{◌≡◌, ℕ, ◌+◌, ◌%◌, ◌<◌, ◌≤◌, ◌==◌, true, false, cond, List}
use Rattle.std.proofs.Common.{◌⊎◌, arith}
use Rattle.std.proofs.Math.Nat.{min-le_right}
use Rattle.busdma_base.specs.declared.scenarios.script.Op.{Op}
use Rattle.program_rules.specs.declared.transfer.Transfer.{Transfer}
use Rattle.program_rules.specs.Storms.Transfer.{round, storm_transfer, to_device, from_device}

-- the bounds of each transfer
pub record IsSmall (t : Transfer) : Type 0 where
  pub map : (t.map ≡ 1) ⊎ (t.map ≡ 2)
  pub short : t.len ≤ 8192
  pub few : t.touched ≤ 64

map_drawn : (p : ℕ) → (1 + p % 2 ≡ 1) ⊎ (1 + p % 2 ≡ 2)
map_drawn p =
    let below : p % 2 < 2 = omega arith in
    grind arith

pub drawn_is_small : (p q : ℕ) → IsSmall (storm_transfer p q)
drawn_is_small p q = record { map = map_drawn p; short = omega arith; few = min-le_right _ _ }

-- what holds of the operations of each small transfer, in both directions, holds of those of a round
pub round_cases : (P : List Op → Type 0) → ((t : Transfer) → IsSmall t → P (to_device t)) →
    ((t : Transfer) → IsSmall t → P (from_device t)) → (p q : ℕ) → P (round p q)
unfolding round
round_cases P to from p q =
    elim (q % 2 == 0) as (λ v. P (cond v (to_device (storm_transfer p q)) (from_device (storm_transfer p q))))
    [ true ↦ to (storm_transfer p q) (drawn_is_small p q) | false ↦ from (storm_transfer p q) (drawn_is_small p q) ]
