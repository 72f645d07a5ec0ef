-- How many pages serving promises.
use Rattle.std.proofs.Common.{◌≡◌, ℕ, ◌+◌, ◌-◌, ◌<◌, ◌≤◌, true, false, List, [], ◌∷◌, length, refl, arith, leb}
use Rattle.std.proofs.Common.{if◌then◌else◌, All}
use Rattle.std.specs.List.{sum_by}
use Rattle.std.proofs.lemmas.List.Sums.{sum_by-cons}
use Rattle.std.proofs.lemmas.List.Elements.{All-head, All-tail}
use Rattle.busdma_machine.specs.declared.bounce.zone.Waiter.{Waiter}
use Rattle.busdma_machine.specs.Bounce.Serving.{completed, left_waiting, promised}

abbrev lacking : Waiter → Type 0
lacking w = w.have < w.need

pub promised-sum : (pages : ℕ) (ws : List Waiter) → All (λ (w : Waiter). w.have < w.need) ws
    → sum_by (λ w. w.have) (left_waiting pages ws) + sum_by (λ w. w.need) (completed pages ws)
    ≡ sum_by (λ w. w.have) ws + promised pages ws
promised-sum pages [] all = refl
promised-sum pages (w ∷ ws) all =
    let lacks : w.have < w.need = All-head lacking w ws all in
    let k : ℕ = w.need - w.have in
    (elim (leb k pages) as (λ v. leb k pages ≡ v →
    sum_by (λ w. w.have) (if v then left_waiting (pages - k) ws else record w { have = w.have + pages } ∷ ws)
    + sum_by (λ w. w.need) (if v then record w { have = w.need } ∷ completed (pages - k) ws else [])
    ≡ sum_by (λ w. w.have) (w ∷ ws) + (if v then k + promised (pages - k) ws else pages)) [
      | true ↦ λ t. omega (
        arith,
        lacks,
        promised-sum (pages - k) ws (All-tail lacking w ws all),
        sum_by-cons (λ (w : Waiter). w.have) w ws,
        sum_by-cons (λ (w : Waiter). w.need) (record w { have = w.need }) (completed (pages - k) ws),
      )
      | false ↦ λ t. omega (
        arith,
        sum_by-cons (λ (w : Waiter). w.have) (record w { have = w.have + pages }) ws,
        sum_by-cons (λ (w : Waiter). w.have) w ws,
      )
    ]) refl

pub completed-le : (pages : ℕ) (ws : List Waiter) → length (completed pages ws) ≤ length ws
completed-le pages [] = omega arith
completed-le pages (w ∷ ws) =
    elim (leb (w.need - w.have) pages) as (λ v. length (if v
    then record w { have = w.need } ∷ completed (pages - (w.need - w.have)) ws else []) ≤ length (w ∷ ws)) [
      | true ↦ omega (arith, completed-le (pages - (w.need - w.have)) ws)
      | false ↦ omega arith
    ]
