-- How zones grow for tags and maps.
use Rattle.std.specs.Prelude.{◌≡◌, ℕ, ◌+◌, ◌-◌, ◌==◌, ◌&&◌, Bool, true, nat_le, List, length, slice_get}
use Rattle.std.specs.Prelude.{Option, Some, None, if◌then◌else◌}
use Rattle.busdma_machine.specs.declared.tags.tag.TagLimits.{TagLimits}
use Rattle.busdma_machine.specs.Bounce.Account.{Account}
use Rattle.busdma_machine.specs.Bounce.Growth.{bounds_serve, first_place, zone_for_tag, with_zone_for, added, grown}
use Rattle.bounce_hub.specs.declared.hub_zone.HubZone.{HubZone}
use Rattle.bounce_hub.specs.declared.pool.Pool.{Pool}
use Rattle.bounce_hub.specs.Pools.{PoolAgrees, Fits}

-- the zone's pages are aligned as the tag asks, and lie as low as the tag asks
abbrev pub serves : TagLimits → HubZone → Bool
serves t s = bounds_serve t s.zone.lowaddr s.zone.alignment

-- the place of the first zone that serves the tag, or the number of zones if none does
abbrev pub place_for : TagLimits → List HubZone → ℕ
place_for t ss = first_place (serves t) ss

-- the pool agrees with an account
pub record IsOfAccount (p : Pool) : Type 0 where
  pub account : Account
  pub agrees : PoolAgrees p account

-- a zone lies no higher than the last one before it and is aligned no less, or there is none before it
abbrev pub nests_behind : Option HubZone → HubZone → Bool
nests_behind None s = true
nests_behind (Some last) s =
    nat_le s.zone.lowaddr last.zone.lowaddr && nat_le last.zone.alignment s.zone.alignment

-- how many zones from the first on are nested once one more follows them, if n of them are nested now
abbrev pub nested_with : ℕ → List HubZone → HubZone → ℕ
nested_with n ss s = if n == length ss && nests_behind (slice_get ss (length ss - 1)) s then n + 1 else n

-- how many pages a zone has, or 0 without a zone
abbrev pub grown_pages : Option HubZone → ℕ
grown_pages None = 0
grown_pages (Some s) = length s.zone.pages + s.zone.active

-- how many maps a zone has, or 0 without a zone
abbrev pub grown_maps : Option HubZone → ℕ
grown_maps None = 0
grown_maps (Some s) = s.maps

-- the place is that of the tag's zone, in an account that the pool agrees with
pub record IsPlace (p : Pool) (t : TagLimits) (here : ℕ) : Type 0 where
  pub account : Account
  pub agrees : PoolAgrees p account
  pub fits : Fits p account
  pub place : here ≡ zone_for_tag t account.zones

-- the tag's zone got n of the wanted pages, and the pool agrees with the account after that
pub record GrewBy (p : Pool) (t : TagLimits) (place wanted n : ℕ) (a : Account) (q : Pool) : Type 0 where
  pub agrees : PoolAgrees q (grown (with_zone_for t a) place n)
  pub added : n ≡ added (with_zone_for t a) place wanted
  pub room : q.bank.room ≡ p.bank.room

-- the tag's zone got n of the wanted pages, for each account that the pool can be of
abbrev pub Grows : Pool → TagLimits → ℕ → ℕ → ℕ → Pool → Type 0
Grows p t place wanted n q =
    (a : Account) → PoolAgrees p a → Fits p a → place ≡ zone_for_tag t a.zones → GrewBy p t place wanted n a q
