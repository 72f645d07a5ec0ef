-- The place that a path leads to.
use Rattle.json_fields.specs.declared.path.Path.{Path, fold-Path}
use Rattle.json_fields.specs.declared.path.Path.TheOpen.{Path-F}
use Rattle.scenario_format.specs.Json.DocumentPlaces.{DocumentPlace, top, key, item}

-- one step of a path of the code
abbrev pub place_step : Path-F DocumentPlace → DocumentPlace
place_step Path-F.Top = top
place_step (Path-F.Key p name) = key p.now name.now
place_step (Path-F.Item p n) = item p.now n

-- the place that a path of the code leads to
unfoldable pub path_place : Path → DocumentPlace
path_place = fold-Path DocumentPlace place_step
