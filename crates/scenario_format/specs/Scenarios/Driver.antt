-- The drivers, each read by itself and by the drivers before it.
use Rattle.std.specs.Prelude.{List, [], ◌∷◌, length, Option, Some, None, Ok, if◌then◌else◌, nat_lt, codes}
use Rattle.serde_json.specs.Data.{Data}
use Rattle.busdma_base.specs.declared.scenarios.scenario.FrameRun.{FrameRun}
use Rattle.busdma_base.specs.declared.scenarios.scenario.PageRun.{PageRun}
use Rattle.busdma_base.specs.declared.scenarios.scenario.Driver.{Driver}
use Rattle.busdma_base.specs.declared.scenarios.script.Op.{Op}
use Rattle.busdma_base.specs.Scenarios.Limits.{drivers_limit}
use Rattle.scenario_format.specs.Json.DocumentPlaces.{DocumentPlace}
use Rattle.scenario_format.specs.Json.Read.{Read, ◌>>=◌, refuse}
use Rattle.scenario_format.specs.Json.Field.{Spot, field, required, only_keys, one_of}
use Rattle.scenario_format.specs.Json.Items.{read_items, each}
use Rattle.scenario_format.specs.declared.refusal.RefusalKind.TheVariants.{Limit}
use Rattle.scenario_format.specs.declared.refusal.LimitName.TheVariants.{Drivers}
use Rattle.scenario_format.specs.declared.counts.Counts.{Counts}
use Rattle.scenario_format.specs.Parts.Counts.{counts_after_drivers}
use Rattle.scenario_format.specs.Scenarios.Pages.{read_pages}
use Rattle.scenario_format.specs.Scripts.Script.{read_script}

-- the pages of a list, or none if there is no list
abbrev pub pages_or_none : List FrameRun → List Driver → Option Spot → Read (List PageRun)
pages_or_none frames earlier None = Ok []
pages_or_none frames earlier (Some spot) = read_pages frames earlier spot

-- the script of a driver; a missing one is refused
unfoldable pub script_field : List PageRun → Counts → Spot → Read (List Op)
script_field pages c here = required (codes "script") here >>= read_script pages c

-- a driver: its pages, and its script. The script's bios are of these pages, and its bytes are counted after those of
-- the drivers before it.
unfoldable pub read_driver : List FrameRun → List Driver → Spot → Read Driver
read_driver frames earlier here =
    only_keys (one_of (codes "pages" ∷ codes "script" ∷ [])) here >>= (λ _.
    pages_or_none frames earlier (field (codes "pages") here) >>= (λ pages.
    script_field pages (counts_after_drivers earlier) here >>= (λ script.
    Ok (record { pages = pages; script = script }))))

-- the drivers of a list, if they are within the limit; they are counted before the first of them is read
abbrev pub drivers_judged : DocumentPlace → List Data → Read (List Data)
drivers_judged place ds = if nat_lt drivers_limit (length ds) then refuse (Limit Drivers) place else Ok ds

-- the list of drivers
unfoldable pub read_drivers : List FrameRun → Spot → Read (List Driver)
read_drivers frames here =
    read_items here >>= (λ ds. drivers_judged here.place ds >>= each (read_driver frames) here [])
