-- What no call changes in a zone.
use Rattle.std.specs.Prelude.{◌≡◌, ℕ, ◌<◌, ◌≤◌, length}
use Rattle.busdma_machine.specs.Bounce.Account.{Account, zone_at}

-- no zone was removed, and each has the lowaddr and the alignment that it had
pub record KeepsZones (a b : Account) : Type 0 where
  pub count : length a.zones ≤ length b.zones
  pub lowaddr : (z : ℕ) → z < length a.zones → (zone_at b z).lowaddr ≡ (zone_at a z).lowaddr
  pub alignment : (z : ℕ) → z < length a.zones → (zone_at b z).alignment ≡ (zone_at a z).alignment
