-- The frames of the machine that no driver has.
use Rattle.std.specs.Prelude.{ℕ, ◌+◌, Bool, not, ◌&&◌, nat_le, nat_lt, List}
use Rattle.std.specs.List.{filter, flat_map, list_any}
use Rattle.busdma_base.specs.declared.scenarios.scenario.Driver.{Driver}
use Rattle.busdma_base.specs.declared.scenarios.scenario.FrameRun.{FrameRun}
use Rattle.busdma_base.specs.declared.scenarios.scenario.PageRun.{PageRun}
use Rattle.busdma_base.specs.declared.scenarios.scenario.Scenario.{Scenario}
use Rattle.busdma_base.specs.Scenarios.Opening.{free_below, is_owned, maxmem_of}
use Rattle.busdma_machine.specs.Runs.{run_of}

-- the frames of a scenario that no driver has, in rising order
abbrev pub free_of : Scenario → List ℕ
free_of s = free_below s (maxmem_of s.frames)

-- a run of pages has the frame
abbrev pub is_frame_of : ℕ → PageRun → Bool
is_frame_of frame run = nat_le run.frame frame && nat_lt frame (run.frame + run.count)

-- one of these runs of pages has the frame
abbrev pub has_free_frame : ℕ → List PageRun → Bool
has_free_frame frame pages = list_any (is_frame_of frame) pages

-- the frames of a run that no driver has
abbrev pub unowned_in : List Driver → FrameRun → List ℕ
unowned_in drivers run = filter (λ f. not (is_owned drivers f)) (run_of run.first run.count)

-- the frames of all runs that no driver has, run by run
abbrev pub unowned : List Driver → List FrameRun → List ℕ
unowned drivers runs = flat_map (unowned_in drivers) runs
