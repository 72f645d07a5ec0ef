-- A scenario, or the first refusal.
use Rattle.std.specs.Prelude.{ℕ, List, [], ◌∷◌, length, Option, Some, None, Ok, Err, if◌then◌else◌, nat_le, codes, ◌&&◌}
use Rattle.std.specs.Str.{is_utf8}
use Rattle.serde_json.specs.Data.{Data}
use Rattle.serde_json.specs.Read.{read}
use Rattle.busdma_base.specs.declared.scenarios.scenario.FrameRun.{FrameRun}
use Rattle.busdma_base.specs.declared.scenarios.scenario.Driver.{Driver}
use Rattle.busdma_base.specs.declared.scenarios.scenario.Scenario.{Scenario}
use Rattle.scenario_format.specs.Json.DocumentPlaces.{DocumentPlace, top, key}
use Rattle.scenario_format.specs.Json.Read.{Read, ◌>>=◌, refuse}
use Rattle.scenario_format.specs.Json.Field.{Spot, required, only_keys, one_of}
use Rattle.scenario_format.specs.Json.Number.{number_or}
use Rattle.scenario_format.specs.declared.refusal.RefusalKind.TheVariants.{NotJson, Limit}
use Rattle.scenario_format.specs.declared.refusal.LimitName.TheVariants.{MaxBpages}
use Rattle.scenario_format.specs.declared.reading.Reading.{Reading}
use Rattle.scenario_format.specs.declared.reading.Reading.TheVariants.{Good, Bad}
use Rattle.scenario_format.specs.Scenarios.Driver.{read_drivers}
use Rattle.scenario_format.specs.Scenarios.Frames.{read_frame_runs}
use Rattle.busdma_base.specs.Scenarios.Limits.{bpages_limit}
use Rattle.scenario_format.specs.Scenarios.Order.{order_field}

-- the pages up to which a zone grows; none, or more than the limit, is refused
abbrev pub bpages_judged : DocumentPlace → ℕ → Read ℕ
bpages_judged place n = if nat_le 1 n && nat_le n bpages_limit then Ok n else refuse (Limit MaxBpages) place

-- the number of pages up to which a zone grows for further maps
unfoldable pub bpages_field : Spot → Read ℕ
bpages_field here = number_or (codes "max_bpages") 8192 here >>= bpages_judged (key here.place (codes "max_bpages"))

-- the machine's frames; a missing list is refused
unfoldable pub read_frames_field : Spot → Read (List FrameRun)
read_frames_field here = required (codes "frames") here >>= read_frame_runs

-- the drivers; a missing list is refused
unfoldable pub drivers_field : List FrameRun → Spot → Read (List Driver)
drivers_field frames here = required (codes "drivers") here >>= read_drivers frames

-- the scenario that the top object is
unfoldable pub read_scenario : Spot → Read Scenario
read_scenario here =
    only_keys (one_of (codes "frames" ∷ codes "max_bpages" ∷ codes "drivers" ∷ codes "order" ∷ [])) here >>= (λ _.
    read_frames_field here >>= (λ frames.
    bpages_field here >>= (λ bpages.
    drivers_field frames here >>= (λ drivers.
    order_field (length drivers) here >>= (λ order.
    Ok (record { frames = frames; max_bpages = bpages; drivers = drivers; order = order }))))))

-- the JSON value of these bytes, if they are one
abbrev pub document : List ℕ → Option Data
document bytes = if is_utf8 bytes then read bytes else None

-- the scenario of a document; bytes that are no JSON value are refused at the top
abbrev pub read_document : Option Data → Read Scenario
read_document None = refuse NotJson top
read_document (Some d) = read_scenario (record { place = top; value = d })

-- the reading of a document: a scenario is good, and a refusal is bad
abbrev pub reading : Read Scenario → Reading
reading (Ok s) = Good s
reading (Err r) = Bad r

-- what the bytes say: a scenario, or the first refusal
unfoldable pub scenario_of : List ℕ → Reading
scenario_of bytes = reading (read_document (document bytes))
