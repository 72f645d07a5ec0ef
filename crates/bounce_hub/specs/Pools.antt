-- How the pool that all drivers share agrees with the account.
use Rattle.std.specs.Prelude.{◌≡◌, ℕ, ◌+◌, ◌^◌, ◌<◌, ◌≤◌, List, length, slice_index_or, sum_by}
use Rattle.busdma_machine.specs.declared.bounce.zone.Waiter.{Waiter}
use Rattle.busdma_machine.specs.declared.name.MapId.{MapId}
use Rattle.busdma_machine.specs.declared.bounce.hold.HubCall.{HubCall}
use Rattle.busdma_machine.specs.declared.bounce.hold.HubReply.{HubReply}
use Rattle.busdma_machine.specs.declared.bounce.hold.HubCall.TheVariants.{TakeCallback, MemFree}
use Rattle.busdma_machine.specs.declared.bounce.hold.HubReply.TheVariants.{Nothing}
use Rattle.busdma_machine.specs.Bounce.Account.{Account, zone_at, reserved, active}
use Rattle.busdma_machine.specs.Bounce.AccountStep.{account_step}
use Rattle.busdma_machine.specs.Bounce.Conditions.{MayCall}
use Rattle.busdma_machine.specs.Bounce.MemoryRuns.{frames_of}
use Rattle.busdma_machine.specs.Machine.PageList.{page_addresses}
use Rattle.busdma_machine.specs.Bounce.Places.{frame_total, places}
use Rattle.busdma_machine.specs.Bounce.WellFormed.{IsAccountWellFormed}
use Rattle.frame_bank.specs.FrameBank.{free_frames}
use Rattle.bounce_hub.specs.declared.hub_zone.HubZone.{HubZone}
use Rattle.bounce_hub.specs.declared.pool.Pool.{Pool}

-- a zone's list and its counters are the account's
pub record Matches (s : HubZone) (a : Account) (z : ℕ) : Type 0 where
  pub lowaddr : s.zone.lowaddr ≡ (zone_at a z).lowaddr
  pub alignment : s.zone.alignment ≡ (zone_at a z).alignment
  pub avail : page_addresses s.zone.pages ≡ (zone_at a z).avail
  pub reserved : s.zone.reserved ≡ reserved a z
  pub active : s.zone.active ≡ active a z
  pub wait : s.wait ≡ (zone_at a z).wait
  pub maps : s.maps ≡ length (zone_at a z).maps
  pub deferred : s.deferred ≡ (zone_at a z).deferred

-- how many entries are still to come for maps that wait or await their callbacks: for each map one for its callback,
-- and one for the release of each of its pages
abbrev pub entries_to_come : List Waiter → ℕ
entries_to_come ws = sum_by (λ w. w.need + 1) ws

-- how many entries are still to come for what was begun: the releases, the callbacks, and the end of each map and
-- memory
abbrev pub owed : Account → ℕ
owed a =
    length a.held + (sum_by (λ z. entries_to_come z.wait + length z.maps) a.zones
    + (entries_to_come a.ready + length a.mems))

-- how many maps wait for pages, in all zones
abbrev pub waiting : Account → ℕ
waiting a = sum_by (λ z. length z.wait) a.zones

-- how many loads waited and then got all their pages, or still wait
abbrev pub deferrals : Account → ℕ
deferrals a = sum_by (λ z. z.deferred + length z.wait) a.zones

-- the first n zones are nested: each lies no higher than those before it, and is aligned no less
pub record AreNested (n : ℕ) (a : Account) : Type 0 where
  pub count : n ≤ length a.zones
  pub lowaddr : (y z : ℕ) → y ≤ z → z < n → (zone_at a z).lowaddr ≤ (zone_at a y).lowaddr
  pub alignment : (y z : ℕ) → y ≤ z → z < n → (zone_at a y).alignment ≤ (zone_at a z).alignment

-- the pool agrees with the account: they have the same bank, zones, callback list, entries to come and constants. The
-- zones that the pool takes as nested are, and its callback list has room for each map that waits
pub record PoolAgrees (p : Pool) (a : Account) : Type 0 where
  pub bank : free_frames p.bank ≡ a.bank
  pub count : length p.zones.items ≡ length a.zones
  pub zones : (z : ℕ) (d : HubZone) → z < length p.zones.items → Matches (slice_index_or p.zones.items z d) a z
  pub nested : AreNested p.nested a
  pub ready : p.ready.items ≡ a.ready
  pub spare : waiting a ≤ p.ready.spare
  pub owed : p.owed ≡ owed a
  pub maxmem : p.maxmem ≡ a.maxmem
  pub max_bpages : p.max_bpages ≡ a.max_bpages

-- the account is well formed, no frame occurs twice, its numbers are small, and the bank has room for all its frames
pub record Fits (p : Pool) (a : Account) : Type 0 where
  pub well : IsAccountWellFormed a
  pub apart : (f : ℕ) → places f a ≤ 1
  pub few : frame_total a ≤ 8192
  pub deferrals : deferrals a < 2 ^ 63
  pub room : frame_total a ≤ p.bank.room

-- the pool agrees with an account that allows the call
pub record Allowed (p : Pool) (lane : ℕ) (c : HubCall) : Type 0 where
  pub account : Account
  pub agrees : PoolAgrees p account
  pub fits : Fits p account
  pub may : MayCall lane c account

-- the call made the account's step: the pool agrees with the account after it, and the reply is the account's
pub record Stepped (p : Pool) (lane : ℕ) (c : HubCall) (r : HubReply) (a : Account) (q : Pool) : Type 0 where
  pub agrees : PoolAgrees q (account_step lane c a).account
  pub reply : r ≡ (account_step lane c a).reply
  pub room : q.bank.room ≡ p.bank.room

-- the call made the account's step, for each account that the pool can be of
abbrev pub Steps : Pool → ℕ → HubCall → HubReply → Pool → Type 0
Steps p lane c r q = (a : Account) → PoolAgrees p a → Fits p a → MayCall lane c a → Stepped p lane c r a q

-- the pool still agrees with each account that it agreed with, and its bank has the room that it had
pub record Stays (p q : Pool) : Type 0 where
  pub agrees : (a : Account) → PoolAgrees p a → PoolAgrees q a
  pub room : q.bank.room ≡ p.bank.room

-- no callback of the lane is at the head of the callback list
abbrev pub Missed : Pool → ℕ → Type 0
Missed p lane = (a : Account) → PoolAgrees p a → (account_step lane TakeCallback a).reply ≡ Nothing

-- the pool agrees with an account that allows the end of a memory, and these are the memory's frames
pub record Returns (p : Pool) (m : MapId) (given : List ℕ) : Type 0 where
  pub account : Account
  pub agrees : PoolAgrees p account
  pub fits : Fits p account
  pub may : MayCall m.lane.0 (MemFree m) account
  pub frames : given ≡ frames_of m account.mems

-- the end of a memory with these frames made the account's step, for each account that the pool can be of
abbrev pub StepsBack : Pool → MapId → List ℕ → Pool → Type 0
StepsBack p m frames q = (a : Account) → PoolAgrees p a → Fits p a → MayCall m.lane.0 (MemFree m) a →
    frames ≡ frames_of m a.mems → Stepped p m.lane.0 (MemFree m) Nothing a q
