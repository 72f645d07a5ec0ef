-- The memory in which a driver opens.
use Rattle.std.specs.Prelude.{◌≡◌, ℕ, ◌+◌, ◌*◌, ◌/◌, ◌%◌, ◌-◌, ◌^◌, ◌<◌, ◌≤◌, Bool, true, false, ◌&&◌, nat_le, nat_lt}
use Rattle.std.specs.Prelude.{List, [], Some, None, if◌then◌else◌, replicate}
use Rattle.std.specs.List.{list_any}
use Rattle.std.specs.FinMap.{get}
use Rattle.busdma_base.specs.declared.scenarios.scenario.PageRun.{PageRun}
use Rattle.busdma_machine.specs.Each.{EachAfter}
use Rattle.busdma_machine.specs.Machine.VirtualPages.{pages_end}
use Rattle.busdma_base.specs.Scenarios.PageRuns.{share_frame, share_page}
use Rattle.phys_memory.specs.declared.reach.Reach.{Reach}
use Rattle.phys_memory.specs.Memory.{FrameMemory, memory_physical, wire, memory_has_frame}
use Rattle.busdma_base.specs.Scenarios.PageRuns.{physical_in, is_own}

-- a run has a page, is on page boundaries below the end of pages and in frames of numbers below 2^30, and shares no
-- frame and no virtual page with a run before it
pub record IsOwnRun (before : List PageRun) (run : PageRun) : Type 0 where
  pub some : 1 ≤ run.count
  pub aligned : run.va.0 % 4096 ≡ 0
  pub low : run.va.0 + 4096 * run.count ≤ pages_end
  pub numbered : run.frame + run.count ≤ 2 ^ 30
  pub own_frames : list_any (share_frame run) before ≡ false
  pub own_pages : list_any (share_page run) before ≡ false

-- the pages of a driver are well formed: each run is, and none shares a frame or a virtual page with an earlier one
abbrev pub ArePages : List PageRun → Type 0
ArePages pages = EachAfter IsOwnRun [] pages

-- the memory has exactly these pages, below the virtual addresses of memories, and 0 in every byte of them
pub record IsOpeningMemory (pages : List PageRun) (m : FrameMemory) : Type 0 where
  pub physical : memory_physical m ≡ physical_in pages
  pub frames : (a : ℕ) → memory_has_frame m (a / 4096) ≡ is_own pages a
  pub zero : (a : ℕ) → is_own pages a ≡ true → wire m a ≡ 0
  pub low : (v : ℕ) (r : Reach) → get m.table v ≡ Some r → v < pages_end / 4096

-- a number is one of the `n` numbers from another one on
abbrev pub is_one_of : ℕ → ℕ → ℕ → Bool
is_one_of first n x = nat_le first x && nat_lt x (first + n)

-- the row of a virtual page, by its number, in a run of pages that are reached up to their ends
abbrev pub row_of : PageRun → ℕ → Reach
row_of run v = record { frame = run.frame + (v - run.va.0 / 4096); reach = 4096 }

-- a memory after the pages of a run were added to it, with 0 in every byte
pub record HasPageRun (run : PageRun) (before after : FrameMemory) : Type 0 where
  pub table : (v : ℕ) → get after.table v ≡ (if is_one_of (run.va.0 / 4096) run.count v
      then Some (row_of run v) else get before.table v)
  pub frames : (f : ℕ) → get after.frames f
      ≡ (if is_one_of run.frame run.count f then Some (replicate 4096 0) else get before.frames f)

-- a memory has none of the pages of a run, and none of its frames
pub record IsWithout (run : PageRun) (m : FrameMemory) : Type 0 where
  pub table : (v : ℕ) → is_one_of (run.va.0 / 4096) run.count v ≡ true → get m.table v ≡ None
  pub frames : (f : ℕ) → is_one_of run.frame run.count f ≡ true → get m.frames f ≡ None
