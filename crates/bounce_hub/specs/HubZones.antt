-- What contracts see of a zone with the maps that wait for it.
use Rattle.std.specs.Prelude.{◌≡◌, ℕ, ◌+◌, ◌-◌, ◌<◌, List, length, slice_index, slice_index_or}
use Rattle.busdma_machine.specs.declared.bounce.zone.ZoneCounts.{ZoneCounts}
use Rattle.bounce_zone.specs.ZonePages.{zone_page_counts}
use Rattle.bounce_hub.specs.declared.hub_zone.HubZone.{HubZone}

-- how many pages of a zone are promised to nobody once a page came back
abbrev pub room_after : HubZone → ℕ
room_after s = length s.zone.pages + 1 - s.zone.reserved

-- the counts of a zone, given how many syncs copied so far
abbrev pub counts_of : ℕ → HubZone → ZoneCounts
counts_of bounced s = zone_page_counts s.zone bounced s.deferred

-- the counts of the zone with a number, given how many syncs copied in each zone so far
abbrev pub counts_at : List ℕ → ℕ → HubZone → ZoneCounts
counts_at bounced z s = counts_of (slice_index bounced z) s

-- the counts are those of the zones, in order
pub record HaveCounts (zones : List HubZone) (bounced : List ℕ) (cs : List ZoneCounts) : Type 0 where
  pub count : length cs ≡ length zones
  pub each : (z : ℕ) → z < length cs → (s : HubZone) (d : ZoneCounts) →
      slice_index_or cs z d ≡ counts_at bounced z (slice_index_or zones z s)
