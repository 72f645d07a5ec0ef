-- What a driver has of one name, in numbers that can be compared with the account's.
use Rattle.std.specs.Prelude.{ℕ, ◌+◌, Bool, ◌&&◌, List, [], length, Option, Some, None, ◌==◌, if◌then◌else◌}
use Rattle.std.specs.List.{count_by}
use Rattle.busdma_machine.specs.Bounce.Share.{Share}
use Rattle.lane_agreement.specs.View.{View, OwnMap, Return, SeenStage, Idle, Waiting, Loaded, Returning, returning}

-- 1 if this is so, and else 0
abbrev pub share_if : Bool → ℕ
share_if b = if b then 1 else 0

-- a return is of this page of this zone by this map
abbrev pub is_return : ℕ → ℕ → ℕ → Return → Bool
is_return k z page r = (r.page == page) && ((r.zone == z) && (r.map == k))

-- 1 if the map exists and is of this zone, and else 0
abbrev pub zone_is : ℕ → Option OwnMap → ℕ
zone_is z None = 0
zone_is z (Some m) = share_if (m.zone == z)

-- 1 if the map exists, and else 0
abbrev pub some : Option OwnMap → ℕ
some None = 0
some (Some m) = 1

-- the pages that a map at this stage holds
abbrev pub pages_in : SeenStage → List ℕ
pages_in s = (elim s [ Idle ↦ [] | Waiting n ↦ [] | Loaded ps ↦ ps | Returning ↦ [] ])

-- how many pages the map holds, if it exists
abbrev pub share_loaded : Option OwnMap → ℕ
share_loaded None = 0
share_loaded (Some m) = length (pages_in m.stage)

-- how often the map, if it exists, holds this page of this zone
abbrev pub loaded_page : ℕ → ℕ → Option OwnMap → ℕ
loaded_page z page None = 0
loaded_page z page (Some m) = count_by (λ p. (p == page) && (m.zone == z)) (pages_in m.stage)

-- 1 if a map of the zone y, at this stage, waits for `need` pages of the zone z, and else 0
abbrev pub share_waiting : ℕ → ℕ → ℕ → SeenStage → ℕ
share_waiting y z need s =
    (elim s [ Idle ↦ 0 | Waiting n ↦ share_if ((n == need) && (y == z)) | Loaded ps ↦ 0 | Returning ↦ 0 ])

-- 1 if the map exists and waits for so many pages of this zone, and else 0
abbrev pub waits_for : ℕ → ℕ → Option OwnMap → ℕ
waits_for z need None = 0
waits_for z need (Some m) = share_waiting m.zone z need m.stage

-- 1 if a map at this stage waits for pages, and else 0
abbrev pub listed_in : SeenStage → ℕ
listed_in s = (elim s [ Idle ↦ 0 | Waiting n ↦ 1 | Loaded ps ↦ 0 | Returning ↦ 0 ])

-- 1 if the map exists and waits for pages, and else 0
abbrev pub listed : Option OwnMap → ℕ
listed None = 0
listed (Some m) = listed_in m.stage

-- 1 if the memory exists, and else 0
abbrev pub some_mem : Option (List ℕ) → ℕ
some_mem None = 0
some_mem (Some fs) = 1

-- the frames of the memory, if it exists
abbrev pub mem_frames : Option (List ℕ) → List ℕ
mem_frames None = []
mem_frames (Some fs) = fs

-- what a driver has of a place, by the map and the memory there and by its return queue
abbrev pub share_of : ℕ → Option OwnMap → Option (List ℕ) → List Return → Share
share_of k o m rs = record {
  made = λ z. zone_is z o;
  in_zones = some o;
  holds = share_loaded o + returning k rs;
  holds_page = λ z page. loaded_page z page o + count_by (is_return k z page) rs;
  waits = λ z need. waits_for z need o;
  listed = listed o;
  mems = some_mem m;
  frames = mem_frames m;
}

-- what a driver has of one of its places
abbrev pub own_share : View → ℕ → Share
own_share l k = share_of k (l.map_at k) (l.mem_at k) l.returns
