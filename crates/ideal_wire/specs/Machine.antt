-- What holds of a driver in a machine of valid pages, whatever it does.
use Rattle.std.specs.Prelude.{◌≡◌, ℕ, ◌+◌, ◌*◌, ◌%◌, ◌^◌, ◌≤◌, Some}
use Rattle.std.specs.List.{AllByRecursion}
use Rattle.std.specs.FinMap.{get}
use Rattle.busdma_base.specs.declared.scenarios.scenario.PageRun.{PageRun}
use Rattle.busdma_machine.specs.declared.machine.bio.Bio.TheVariants.{Vector}
use Rattle.busdma_machine.specs.declared.report.Judged.TheVariants.{Fine}
use Rattle.busdma_machine.specs.Machine.VirtualPages.{pages_end}
use Rattle.busdma_base.specs.Scenarios.PageRuns.{physical_in}
use Rattle.busdma_base.specs.Scenarios.Valid.{LoadsFrom}
use Rattle.busdma_machine.specs.Tags.Tag.{IsEffective}
use Rattle.ideal_lane.specs.Loads.{load_judged}
use Rattle.ideal_lane.specs.Sends.{HaveClusters, Send, due_send}
use Rattle.ideal_lane.specs.State.{LaneState, LaneTag, LaneMemory}

-- a run of pages is in a machine whose frame numbers are below `maxmem`: it begins at a page boundary, it ends at or
-- below the virtual addresses of memories, and its frames are below `maxmem`
pub record IsOfMachine (maxmem : ℕ) (r : PageRun) : Type 0 where
  pub aligned : r.va.0 % 4096 ≡ 0
  pub low : r.va.0 + 4096 * r.count ≤ pages_end
  pub below : r.frame + r.count ≤ maxmem

-- if the resend of a send is due, the bytes of its chain may be loaded
abbrev pub IsDueFine : LaneState → Type 0
IsDueFine l = (s : Send) → due_send l ≡ Some s → load_judged l s.map (Vector s.chain) ≡ Fine

-- the machine's frames have numbers below 2^30, and the driver's pages and memories have frames of the machine; each of
-- its tags is effective; the frames that its script names are in its pages, and the clusters of its sends satisfy the
-- rules on scripts; no two virtual addresses of its pages are of the same byte; and if the resend of a send is due, the
-- bytes of its chain may be loaded
pub record IsInMachine (l : LaneState) : Type 0 where
  pub numbered : l.maxmem ≤ 2 ^ 30
  pub pages : AllByRecursion (IsOfMachine l.maxmem) l.pages
  pub mems : (k : ℕ) (x : LaneMemory) → get l.mems k ≡ Some x → x.first + 4096 * x.count ≤ 4096 * l.maxmem
  pub tags : (k : ℕ) (t : LaneTag) → get l.tags k ≡ Some t → IsEffective t.limits
  pub bios : AllByRecursion (LoadsFrom l.pages) l.script
  pub clusters : HaveClusters l.script
  pub unlike : (va vb pa : ℕ) → physical_in l.pages va ≡ Some pa → physical_in l.pages vb ≡ Some pa → va ≡ vb
  pub due : IsDueFine l
