-- What contracts see of a hub, and what is true of each hub.
use Rattle.std.specs.Prelude.{◌≡◌, ℕ, ◌+◌, ◌<◌, ◌≤◌, true, List, length, slice_index, slice_index_or}
use Rattle.busdma_machine.specs.declared.bounce.hold.HoldEntry.{HoldEntry}
use Rattle.busdma_machine.specs.declared.bounce.zone.ZoneCounts.{ZoneCounts}
use Rattle.busdma_machine.specs.Bounce.Account.{Account, counts}
use Rattle.busdma_machine.specs.Bounce.Door.{Seen}
use Rattle.busdma_machine.specs.Bounce.History.{IsOpening, IsSound, account_of}
use Rattle.bounce_hub.specs.declared.pool.Pool.{Pool}
use Rattle.bounce_hub.specs.Opening.{hub_opening}
use Rattle.bounce_hub.specs.Pools.{PoolAgrees}

-- a hub: the account that it began with, and its holds
pub record HubSeen : Type 0 where
  pub opening : Account
  pub history : List HoldEntry

-- a hub as a door that serves all lanes
abbrev pub door : HubSeen → Seen
door h = record { opening = h.opening; history = h.history; serves = λ lane. true }

-- the counts are those of an account's zones, in order, given how many syncs copied in each; for a zone past the list's
-- end none did
pub record AreCounts (cs : List ZoneCounts) (bounced : List ℕ) (a : Account) : Type 0 where
  pub count : length cs ≡ length a.zones
  pub each : (z : ℕ) (d : ZoneCounts) → z < length cs → slice_index_or cs z d ≡ counts a (slice_index bounced z) z

-- the account with which the hub of a pool begins
abbrev pub opening_of : Pool → Account
opening_of p = hub_opening p.bank p.max_bpages p.maxmem

-- a hub's history is sound, its pool agrees with the account after the history, its bank has room for the frames of the
-- opening, and its history has room for all entries to come
pub record IsKept (opening : Account) (history : List HoldEntry) (pool : Pool) (capacity : ℕ) : Type 0 where
  pub form : IsOpening opening
  pub sound : IsSound opening history
  pub agrees : PoolAgrees pool (account_of opening history)
  pub frames : length opening.bank ≤ pool.bank.room
  pub room : length history + pool.owed ≤ capacity
