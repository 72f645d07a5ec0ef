-- Which scenarios are valid: they keep every limit, and every rule on names, frames, pages and places.
use Rattle.std.specs.Prelude.{ℕ, ◌≤◌, ◌<◌, List, [], length, sum_by, IfSome}
use Rattle.std.specs.List.{AllByRecursion}
use Rattle.busdma_base.specs.declared.scenarios.scenario.FrameRun.{FrameRun}
use Rattle.busdma_base.specs.declared.scenarios.scenario.Driver.{Driver}
use Rattle.busdma_base.specs.declared.scenarios.scenario.PageRun.{PageRun}
use Rattle.busdma_base.specs.declared.scenarios.scenario.Scenario.{Scenario}
use Rattle.busdma_base.specs.declared.scenarios.script.Op.{Op}
use Rattle.busdma_base.specs.declared.journals.journal.Actor.{Actor}
use Rattle.busdma_machine.specs.Each.{EachAfter}
use Rattle.busdma_base.specs.Scenarios.FrameRuns.{IsFrameRun}
use Rattle.busdma_base.specs.Scenarios.PageRuns.{IsPageRun}
use Rattle.busdma_base.specs.Scenarios.Buffers.{IsBufferOf}
use Rattle.busdma_base.specs.Scenarios.Limits.{bpages_limit, drivers_limit, loaded_limit, reads_limit, order_limit}
use Rattle.busdma_base.specs.Scenarios.Operations.{about, loaded_by, read_by}
use Rattle.busdma_base.specs.Scenarios.Script.{IsScript}

-- the bio that an operation loads, if it is not mapped, has only frames of these pages
abbrev pub LoadsFrom : List PageRun → Op → Type 0
LoadsFrom pages o = IfSome (about o).loads (IsBufferOf pages)

-- a valid driver: its runs of pages are valid, its script is valid, and its bios name only frames of its pages
pub record IsDriver (frames : List FrameRun) (earlier : List Driver) (driver : Driver) : Type 0 where
  pub pages : EachAfter (IsPageRun frames earlier) [] driver.pages
  pub script : IsScript driver.script
  pub bios : AllByRecursion (LoadsFrom driver.pages) driver.script

-- how many bytes the loads of all drivers count together
abbrev pub loaded_of : List Driver → ℕ
loaded_of drivers = sum_by (λ d. sum_by loaded_by d.script) drivers

-- how many bytes all drivers and their devices read together, without those of ring steps and resends
abbrev pub read_of : List Driver → ℕ
read_of drivers = sum_by (λ d. sum_by read_by d.script) drivers

-- a valid scenario: its runs of frames and its drivers are valid, it keeps every limit, and its order names only its
-- drivers
pub record IsValid (s : Scenario) : Type 0 where
  pub frames : EachAfter IsFrameRun [] s.frames
  pub some_bpages : 1 ≤ s.max_bpages
  pub few_bpages : s.max_bpages ≤ bpages_limit
  pub few_drivers : length s.drivers ≤ drivers_limit
  pub drivers : EachAfter (IsDriver s.frames) [] s.drivers
  pub loaded : loaded_of s.drivers ≤ loaded_limit
  pub read : read_of s.drivers ≤ reads_limit
  pub short_order : length s.order ≤ order_limit
  pub order : AllByRecursion (λ (a : Actor). a.lane.0 < length s.drivers) s.order
