-- What contracts see of a bounce zone.
use Rattle.std.specs.Prelude.{◌≡◌, ℕ, ◌+◌, ◌-◌, ◌^◌, ◌<◌, ◌≤◌, List, [], ◌∷◌, length, drop}
use Rattle.busdma_machine.specs.declared.bounce.zone.ZoneCounts.{ZoneCounts}
use Rattle.busdma_machine.specs.Machine.Page.{FrameBytes}

-- a zone: the pages of its list in order, how many of them are reserved, and how many pages are with maps
pub record ZonePages : Type 0 where
  pub lowaddr : ℕ
  pub alignment : ℕ
  pub pages : List FrameBytes
  pub reserved : ℕ
  pub active : ℕ

-- a zone with this lowaddr and alignment and without pages
abbrev pub no_pages : ℕ → ℕ → ZonePages
no_pages lowaddr alignment =
    record { lowaddr = lowaddr; alignment = alignment; pages = []; reserved = 0; active = 0 }

-- the zone with `count` more pages reserved
abbrev pub reserving : ℕ → ZonePages → ZonePages
reserving count z = record z { reserved = z.reserved + count }

-- the zone after `count` reserved pages from the head of its list went to maps
abbrev pub handing_out : ℕ → ZonePages → ZonePages
handing_out count z =
    record z { pages = drop count z.pages; reserved = z.reserved - count; active = z.active + count }

-- the zone after a page came back from a map to the head of its list
abbrev pub taking_back : FrameBytes → ZonePages → ZonePages
taking_back page z = record z { pages = page ∷ z.pages; active = z.active - 1 }

-- the number of pages in a zone's list that are not reserved
abbrev pub free_pages : ZonePages → ℕ
free_pages z = length z.pages - z.reserved

-- the number of a zone's pages, in its list and with maps
abbrev pub total_pages : ZonePages → ℕ
total_pages z = length z.pages + z.active

-- the counts of a zone, given how many syncs copied so far and how many loads waited and then got all their pages
abbrev pub zone_page_counts : ZonePages → ℕ → ℕ → ZoneCounts
zone_page_counts z bounced deferred = record {
  total = total_pages z;
  free = free_pages z;
  reserved = z.reserved;
  active = z.active;
  bounced = bounced;
  deferred = deferred;
  lowaddr = record { 0 = z.lowaddr };
  alignment = z.alignment;
}

-- what is true of each zone: its list has the free and the reserved pages and has room for the pages with maps, and the
-- zone has fewer than 2^32 pages
pub record IsCounted (pages : List FrameBytes) (free reserved active capacity : ℕ) : Type 0 where
  pub listed : free + reserved ≡ length pages
  pub roomy : free + reserved + active ≤ capacity
  pub few : free + reserved + active < 2 ^ 32
