-- What holds of every account that a sound history leads to: its lists fit together.
use Rattle.std.specs.Prelude.{◌≡◌, ℕ, ◌<◌, ◌≤◌, length, All}
use Rattle.busdma_machine.specs.declared.bounce.zone.Waiter.{Waiter}
use Rattle.busdma_machine.specs.Bounce.Account.{Account, zone_at, active, reserved}

-- a waiting map is in the list of its own zone, and has fewer pages than it needs
pub record Lacks (z : ℕ) (w : Waiter) : Type 0 where
  pub zone : w.zone.0 ≡ z
  pub lacks : w.have < w.need

-- the lists of an account fit together: no map holds a page of a zone that does not exist, no zone has more pages
-- promised than in its list, each waiting map is in the list of its own zone and lacks pages, and each map in the
-- callback list needs at least one page
pub record IsAccountWellFormed (a : Account) : Type 0 where
  pub inside : (z : ℕ) → length a.zones ≤ z → active a z ≡ 0
  pub enough : (z : ℕ) → reserved a z ≤ length (zone_at a z).avail
  pub waits : (z : ℕ) → All (Lacks z) (zone_at a z).wait
  pub wanted : All (λ w. 0 < w.need) a.ready
