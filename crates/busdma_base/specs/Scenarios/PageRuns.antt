-- The pages of a driver: frames of its own at virtual addresses.
use Rattle.std.specs.Prelude.{◌≡◌, ℕ, zero, suc, ◌+◌, ◌-◌, ◌*◌, ◌/◌, ◌%◌, ◌≤◌, Bool, true, false, ◌&&◌}
use Rattle.std.specs.Prelude.{if◌then◌else◌}
use Rattle.std.specs.Prelude.{List, [], ◌∷◌, Option, Some, None, nat_le, nat_lt}
use Rattle.std.specs.List.{list_any}
use Rattle.busdma_base.specs.declared.scenarios.scenario.FrameRun.{FrameRun}
use Rattle.busdma_base.specs.declared.scenarios.scenario.PageRun.{PageRun}
use Rattle.busdma_base.specs.declared.scenarios.scenario.Driver.{Driver}
use Rattle.busdma_base.specs.Scenarios.FrameRuns.{is_in}
use Rattle.busdma_machine.specs.Machine.VirtualPages.{pages_end}
use Rattle.busdma_machine.specs.Runs.{meet}

-- the n frames from `first` on are all in the machine
abbrev pub all_in : List FrameRun → ℕ → ℕ → Bool
all_in runs first zero = true
all_in runs first (suc n) = list_any (is_in first) runs && all_in runs (first + 1) n

-- two runs of pages share a frame
abbrev pub share_frame : PageRun → PageRun → Bool
share_frame a b = meet a.frame a.count b.frame b.count

-- two runs of pages share a virtual page
abbrev pub share_page : PageRun → PageRun → Bool
share_page a b = meet (a.va.0 / 4096) a.count (b.va.0 / 4096) b.count

-- a run of pages shares a frame with one of these drivers
abbrev pub is_taken : PageRun → List Driver → Bool
is_taken run drivers = list_any (λ d. list_any (share_frame run) d.pages) drivers

-- a valid run of pages: it has a page, lies on page boundaries below the end of the addresses for pages, has only
-- frames of the machine, shares no frame with earlier drivers, and shares neither a frame nor a virtual page with the
-- driver's runs before it
pub record IsPageRun (frames : List FrameRun) (earlier : List Driver)
    (before : List PageRun) (run : PageRun) : Type 0 where
  pub some : 1 ≤ run.count
  pub aligned : run.va.0 % 4096 ≡ 0
  pub low : run.va.0 + 4096 * run.count ≤ pages_end
  pub there : all_in frames run.frame run.count ≡ true
  pub untaken : is_taken run earlier ≡ false
  pub own_frames : list_any (share_frame run) before ≡ false
  pub own_pages : list_any (share_page run) before ≡ false

-- a virtual address lies in a run of pages
abbrev pub is_in_run : ℕ → PageRun → Bool
is_in_run va run = nat_le run.va.0 va && nat_lt va (run.va.0 + 4096 * run.count)

-- the physical address of the byte at a virtual address, if it is in one of the driver's pages
abbrev pub physical_in : List PageRun → ℕ → Option ℕ
physical_in [] va = None
physical_in (run ∷ runs) va =
    if is_in_run va run then Some (4096 * run.frame + (va - run.va.0)) else physical_in runs va

-- a physical address lies in one of the driver's pages
abbrev pub is_own : List PageRun → ℕ → Bool
is_own runs pa =
    list_any (λ run. nat_le (4096 * run.frame) pa && nat_lt pa (4096 * (run.frame + run.count))) runs

-- a frame is one of the driver's pages
abbrev pub has_frame : List PageRun → ℕ → Bool
has_frame runs frame = list_any (λ run. nat_le run.frame frame && nat_lt frame (run.frame + run.count)) runs
