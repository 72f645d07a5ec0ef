-- When a driver and the account agree.
use Rattle.std.specs.Prelude.{◌≡◌, ℕ, ◌%◌, ◌≤◌, true, false, not, ◌==◌}
use Rattle.std.specs.List.{count_by}
use Rattle.busdma_machine.specs.declared.name.MapId.{MapId}
use Rattle.busdma_machine.specs.Bounce.Account.{Account}
use Rattle.busdma_machine.specs.Bounce.Places.{places, frames_where}
use Rattle.busdma_machine.specs.Bounce.WellFormed.{IsAccountWellFormed}
use Rattle.busdma_machine.specs.Bounce.History.{IsRising}
use Rattle.lane_agreement.specs.View.{View, is_returning, returning, is_astray, zone_in}
use Rattle.busdma_machine.specs.Bounce.Share.{Same, share}
use Rattle.lane_agreement.specs.OwnShare.{own_share}

-- the account has of each name of the driver what the driver has of it
abbrev pub ShareNames : View → Account → Type 0
ShareNames l a = (m : MapId) → m.lane.0 ≡ l.id → Same (own_share l m.made_at) (share m a)

-- a driver and the account agree: the driver's own frames are nowhere in the account, each frame is there at most once,
-- maxmem and all names are the same, and each page in the return queue is of a returning map and of the map's zone
pub record Agrees (l : View) (a : Account) : Type 0 where
  pub apart : (f : ℕ) → l.own_frame f ≡ true → places f a ≡ 0
  pub one : (f : ℕ) → places f a ≤ 1
  pub maxmem : l.maxmem ≡ a.maxmem
  pub names : ShareNames l a
  pub returns : (k : ℕ) → is_returning (l.map_at k) ≡ false → returning k l.returns ≡ 0
  pub zones : (k : ℕ) → count_by (is_astray k (zone_in (l.map_at k))) l.returns ≡ 0

-- an account fits: what holds of each account that a sound history leads to from an opening, whatever the drivers
pub record IsFit (a : Account) : Type 0 where
  pub well : IsAccountWellFormed a
  pub rising : IsRising a.bank
  pub whole : frames_where (λ f. not (f % 4096 == 0)) a ≡ 0
