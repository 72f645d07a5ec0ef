-- The state in which a driver opens.
use Rattle.std.specs.Prelude.{ℕ, false, List, [], Some, None, if◌then◌else◌}
use Rattle.std.specs.FinMap as finmap
use Rattle.busdma_base.specs.declared.scenarios.scenario.Driver.{Driver}
use Rattle.busdma_base.specs.declared.scenarios.scenario.PageRun.{PageRun}
use Rattle.busdma_base.specs.Scenarios.PageRuns.{is_own}
use Rattle.ideal_lane.specs.IdealMemory.{IdealMemory, Known}
use Rattle.ideal_lane.specs.State.{LaneState, no_space}

-- the opening memory of a driver: each byte of its pages is Known and 0
abbrev pub zeros : List PageRun → IdealMemory
zeros runs pa = if is_own runs pa then Some (Known 0) else None

-- the opening state of a driver: it is at the first operation of its script and has made nothing, and its device has
-- nothing to do; `maxmem` is the end of the machine's memory, in frames
abbrev pub opening_lane : ℕ → ℕ → Driver → LaneState
opening_lane id maxmem driver = record {
  id = id;
  maxmem = maxmem;
  script = driver.script;
  place = 0;
  due = false;
  pages = driver.pages;
  tags = finmap.empty;
  maps = finmap.empty;
  mems = finmap.empty;
  rings = finmap.empty;
  memory = zeros driver.pages;
  loans = finmap.empty;
  queue = [];
  returns = [];
  spaces = λ t. no_space;
  shares = λ z. 0;
}
