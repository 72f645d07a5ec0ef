-- The part of an account that concerns one lane: what the account has of its maps and memories.
use Rattle.std.specs.Prelude.{◌≡◌, ℕ}
use Rattle.busdma_machine.specs.declared.name.MapId.{MapId}
use Rattle.busdma_machine.specs.Bounce.Account.{Account}
use Rattle.busdma_machine.specs.Bounce.Share.{Same, share}

-- two accounts have the same of each map and memory of a lane, and the same maxmem
pub record SameFor (lane : ℕ) (a b : Account) : Type 0 where
  pub names : (m : MapId) → m.lane.0 ≡ lane → Same (share m a) (share m b)
  pub maxmem : b.maxmem ≡ a.maxmem
