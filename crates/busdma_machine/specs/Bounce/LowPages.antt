-- Where the pages of bounce zones lie.
use Rattle.std.specs.Prelude.{ℕ, ◌+◌, ◌≤◌, All}
use Rattle.busdma_machine.specs.Bounce.Account.{Account, zone_at}

-- a frame ends at or below an address
abbrev pub EndsWithin : ℕ → ℕ → Type 0
EndsWithin limit f = f + 4095 ≤ limit

-- each page in a zone's list, and each page of it that a map holds, ends at or below the zone's lowaddr
pub record PagesLieLow (a : Account) : Type 0 where
  pub listed : (z : ℕ) → All (EndsWithin (zone_at a z).lowaddr) (zone_at a z).avail
  pub held : All (λ h. EndsWithin (zone_at a h.zone).lowaddr h.page) a.held
