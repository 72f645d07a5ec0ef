-- The conditions of the calls under the bounce lock.
use Rattle.std.specs.Prelude.{◌≡◌, ℕ, ◌+◌, ◌≤◌, List, IsTrue}
use Rattle.std.specs.List.{count_by, sum_by}
use Rattle.busdma_machine.specs.declared.name.MapId.{MapId}
use Rattle.busdma_machine.specs.declared.bounce.hold.HubCall.{HubCall}
use Rattle.busdma_machine.specs.declared.bounce.hold.HubCall.TheVariants.{AttachTag, CreateMap, DestroyMap, Grab}
use Rattle.busdma_machine.specs.declared.bounce.hold.HubCall.TheVariants.{Release}
use Rattle.busdma_machine.specs.declared.bounce.hold.HubCall.TheVariants.{TakeCallback, MemAlloc, MemFree}
use Rattle.busdma_machine.specs.Bounce.Account.{Account, Zone, zone_at, same_map}
use Rattle.busdma_machine.specs.Bounce.Serving.{is_holding}
use Rattle.busdma_machine.specs.Tags.Tag.{could_bounce}
use Rattle.busdma_machine.specs.Tags.TagFlags.{allocnow}

-- how often a map is among the zone's maps
abbrev pub times_made : MapId → ℕ → Account → ℕ
times_made m z a = count_by (same_map m) (zone_at a z).maps

-- how often a map is among the maps of these zones
abbrev pub times_in_zones : MapId → List Zone → ℕ
times_in_zones m zones = sum_by (λ z. count_by (same_map m) z.maps) zones

-- how many pages a map holds
abbrev pub pages_held : MapId → Account → ℕ
pages_held m a = count_by (λ h. same_map m h.map) a.held

-- how often a map holds this page of this zone
abbrev pub times_held : MapId → ℕ → ℕ → Account → ℕ
times_held m z page a = count_by (is_holding m z page) a.held

-- how often a map is in a waiting list or in the callback list
abbrev pub times_listed : MapId → Account → ℕ
times_listed m a =
    sum_by (λ z. count_by (λ w. same_map m w.map) z.wait) a.zones + count_by (λ w. same_map m w.map) a.ready

-- how many memories have this name
abbrev pub memories : MapId → Account → ℕ
memories m a = count_by (λ x. same_map m x.mem) a.mems

-- a map of the zone is idle: it holds no page, and is in no waiting list and not in the callback list
pub record IsIdle (m : MapId) (z : ℕ) (a : Account) : Type 0 where
  pub made : times_made m z a ≡ 1
  pub holds_nothing : pages_held m a ≡ 0
  pub in_no_list : times_listed m a ≡ 0

-- The condition of a lane's call. Its map or memory is the lane's. What it makes is new, and what it ends exists. A map
-- that asks for pages, or is ended, is idle. A request is for at least one page. A page that goes back is held once, by
-- the map. The tag of a call that can grow a zone could bounce; a tag of `AttachTag` also has ALLOCNOW.
abbrev pub MayCall : ℕ → HubCall → Account → Type 0
MayCall lane (AttachTag t) a = IsTrue (could_bounce t a.maxmem) × IsTrue (allocnow t.flags)
MayCall lane (CreateMap m t first_done) a =
    (m.lane.0 ≡ lane) × IsTrue (could_bounce t a.maxmem) × (times_in_zones m a.zones ≡ 0)
MayCall lane (DestroyMap m z) a = (m.lane.0 ≡ lane) × IsIdle m z.0 a
MayCall lane (Grab m z need nowait) a = (m.lane.0 ≡ lane) × (1 ≤ need) × IsIdle m z.0 a
MayCall lane (Release m z page) a = (m.lane.0 ≡ lane) × (times_held m z.0 page.0 a ≡ 1)
MayCall lane TakeCallback a = Unit {0}
MayCall lane (MemAlloc m t) a = (m.lane.0 ≡ lane) × (memories m a ≡ 0)
MayCall lane (MemFree m) a = (m.lane.0 ≡ lane) × (memories m a ≡ 1)
