-- The account: what all drivers share, as plain lists of frames, maps and waiters. Its pages are physical addresses and
-- hold no bytes. How many pages are free, reserved or active is not stored: the definitions count the lists.
use Rattle.std.specs.Prelude.{ℕ, ◌+◌, ◌-◌, Bool, ◌&&◌, List, [], length, ◌==◌, slice_index_or, slice_set}
use Rattle.std.specs.List.{count_by, sum_by, filter}
use Rattle.busdma_machine.specs.declared.name.MapId.{MapId}
use Rattle.busdma_machine.specs.declared.bounce.zone.Waiter.{Waiter}
use Rattle.busdma_machine.specs.declared.bounce.zone.ZoneCounts.{ZoneCounts}

-- a bounce zone: its lowaddr and alignment, its list of pages, its maps, the maps that wait in order, and how many
-- loads have waited and then had all their pages
pub record Zone : Type 0 where
  pub lowaddr : ℕ
  pub alignment : ℕ
  pub avail : List ℕ
  pub maps : List MapId
  pub wait : List Waiter
  pub deferred : ℕ

-- a page that a map of a zone holds
pub record Held : Type 0 where
  pub page : ℕ
  pub zone : ℕ
  pub map : MapId

-- a dmamem memory and its frames
pub record Memory : Type 0 where
  pub mem : MapId
  pub frames : List ℕ

-- what all drivers share: the free frames, rising; the zones in order of making; the held pages; the callback list; the
-- memories; and two constants, the end of frame numbers and the number of pages up to which zones grow for maps
pub record Account : Type 0 where
  pub bank : List ℕ
  pub zones : List Zone
  pub held : List Held
  pub ready : List Waiter
  pub mems : List Memory
  pub maxmem : ℕ
  pub max_bpages : ℕ

-- an account of free frames and the two constants, with nothing else in it
abbrev pub fresh_account : List ℕ → ℕ → ℕ → Account
fresh_account frames maxmem max_bpages = record {
  bank = frames;
  zones = [];
  held = [];
  ready = [];
  mems = [];
  maxmem = maxmem;
  max_bpages = max_bpages;
}

-- a zone with nothing in it, for a number that no zone has
abbrev pub no_zone : Zone
no_zone = record { lowaddr = 0; alignment = 0; avail = []; maps = []; wait = []; deferred = 0 }

-- the zone with this number
abbrev pub zone_at : Account → ℕ → Zone
zone_at a z = slice_index_or a.zones z no_zone

-- the account with the zone of this number replaced
abbrev pub with_zone : Account → ℕ → Zone → Account
with_zone a z zone = record a { zones = slice_set a.zones z zone }

-- two names are the same: they name the same map or memory
abbrev pub same_map : MapId → MapId → Bool
same_map m n = (m.lane.0 == n.lane.0) && (m.made_at == n.made_at)

-- the number of a zone's pages that maps hold
abbrev pub active : Account → ℕ → ℕ
active a z = count_by (λ h. h.zone == z) a.held

-- the number of a zone's pages that are promised to its waiting maps and to its maps in the callback list
abbrev pub reserved : Account → ℕ → ℕ
reserved a z = sum_by (λ w. w.have) (zone_at a z).wait + sum_by (λ w. w.need) (filter (λ w. w.zone.0 == z) a.ready)

-- the number of pages in a zone's list that are promised to no map
abbrev pub free : Account → ℕ → ℕ
free a z = length (zone_at a z).avail - reserved a z

-- the number of a zone's pages, in its list or with maps
abbrev pub total : Account → ℕ → ℕ
total a z = length (zone_at a z).avail + active a z

-- the counts of a zone, given how many syncs have copied
abbrev pub counts : Account → ℕ → ℕ → ZoneCounts
counts a bounced z = record {
  total = total a z;
  free = free a z;
  reserved = reserved a z;
  active = active a z;
  bounced = bounced;
  deferred = (zone_at a z).deferred;
  lowaddr = record { 0 = (zone_at a z).lowaddr };
  alignment = (zone_at a z).alignment;
}

-- an account with nothing in it
abbrev pub no_account : Account
no_account = fresh_account [] 0 0
