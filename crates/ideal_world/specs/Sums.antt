-- How the counts of a zone add up.
use Rattle.std.specs.Prelude.{◌≡◌, ◌+◌}
use Rattle.busdma_machine.specs.declared.bounce.zone.ZoneCounts.{ZoneCounts}

-- the free, the reserved and the active pages add up to all pages of the zone
abbrev pub AddsUp : ZoneCounts → Type 0
AddsUp c = c.free + c.reserved + c.active ≡ c.total
