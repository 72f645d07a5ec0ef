-- The lines of a bounce zone. After the sysctl values under `hw.busdma` of the x86 bounce code.
use Rattle.std.specs.Prelude.{ℕ, List, ◌++◌, codes}
use Rattle.std.specs.Fmt.{decimal}
use Rattle.program_rules.specs.Reports.Text.{hex, numbered}
use Rattle.busdma_machine.specs.declared.bounce.zone.ZoneCounts.{ZoneCounts}

-- the line of one value of the zone with this number
unfoldable pub value_line : ℕ → List ℕ → List ℕ → List ℕ
value_line number name value =
    codes "hw.busdma.zone" ++ (decimal number ++ (codes "." ++ (name ++ (codes ": " ++ (value ++ codes "\n")))))

-- the four lines of a zone's pages
abbrev pub page_lines : ℕ → ZoneCounts → List ℕ
page_lines number zone =
    value_line number (codes "total_bpages") (decimal zone.total)
    ++ (value_line number (codes "free_bpages") (decimal zone.free)
    ++ (value_line number (codes "reserved_bpages") (decimal zone.reserved)
    ++ value_line number (codes "active_bpages") (decimal zone.active)))

-- the four lines of what a zone has done so far and of its limits
abbrev pub use_lines : ℕ → ZoneCounts → List ℕ
use_lines number zone =
    value_line number (codes "total_bounced") (decimal zone.bounced)
    ++ (value_line number (codes "total_deferred") (decimal zone.deferred)
    ++ (value_line number (codes "lowaddr") (hex zone.lowaddr.0)
    ++ value_line number (codes "alignment") (decimal zone.alignment)))

-- the eight lines of the zone with this number
abbrev pub zone_text : ℕ → ZoneCounts → List ℕ
zone_text number zone = page_lines number zone ++ use_lines number zone

-- the lines of all zones, which are numbered from 0
abbrev pub zone_lines : List ZoneCounts → List ℕ
zone_lines zones = numbered zone_text 0 zones
