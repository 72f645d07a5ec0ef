-- The pages of a driver's return queue.
use Rattle.std.specs.Prelude.{Bool, ◌&&◌, ◌==◌, List, map}
use Rattle.std.specs.List.{list_any}
use Rattle.busdma_machine.specs.declared.name.MapId.{MapId}
use Rattle.busdma_machine.specs.declared.name.ZoneId.{ZoneId}
use Rattle.busdma_machine.specs.Machine.Page.{FrameBytes}
use Rattle.lane_tables.specs.declared.queued.QueuedPage.{QueuedPage}

-- pages of a map in the return queue, in order
abbrev pub queued_pages : MapId → ZoneId → List FrameBytes → List QueuedPage
queued_pages m zone pages = map (λ page. record { map = m; zone = zone; page = page }) pages

-- a page of the queue is the map's
abbrev pub is_of : MapId → QueuedPage → Bool
is_of m page = (page.map.lane.0 == m.lane.0) && (page.map.made_at == m.made_at)

-- some page of the queue is the map's
abbrev pub queue_has_page : MapId → List QueuedPage → Bool
queue_has_page m queue = list_any (is_of m) queue
