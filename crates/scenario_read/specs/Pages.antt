-- A run of pages that was read.
use Rattle.std.specs.Prelude.{◌≡◌, ◌+◌, ◌≤◌, ◌*◌, ◌%◌}
use Rattle.busdma_base.specs.declared.scenarios.scenario.PageRun.{PageRun}
use Rattle.busdma_machine.specs.Machine.VirtualPages.{pages_end}

-- a run has at least one page, begins at a page boundary, and ends below the end of pages
pub record IsOnPages (run : PageRun) : Type 0 where
  pub some : 1 ≤ run.count
  pub aligned : run.va.0 % 4096 ≡ 0
  pub low : run.va.0 + 4096 * run.count ≤ pages_end
