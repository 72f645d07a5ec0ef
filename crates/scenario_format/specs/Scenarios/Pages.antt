-- The pages of a driver, as they are read.
use Rattle.std.specs.Prelude.{ℕ, ◌+◌, ◌*◌, ◌%◌, ◌&&◌, ◌||◌, ◌==◌, List, [], ◌∷◌, not, Ok, if◌then◌else◌, nat_le}
use Rattle.std.specs.List.{list_any}
use Rattle.serde_json.specs.Data.{Data}
use Rattle.busdma_base.specs.declared.scenarios.scenario.FrameRun.{FrameRun}
use Rattle.busdma_base.specs.declared.scenarios.scenario.PageRun.{PageRun}
use Rattle.busdma_base.specs.declared.scenarios.scenario.Driver.{Driver}
use Rattle.busdma_machine.specs.Machine.VirtualPages.{pages_end}
use Rattle.busdma_base.specs.Scenarios.PageRuns.{all_in, share_frame, share_page, is_taken}
use Rattle.scenario_format.specs.Json.DocumentPlaces.{DocumentPlace}
use Rattle.scenario_format.specs.Json.Read.{Read, ◌>>=◌, refuse}
use Rattle.scenario_format.specs.Json.Field.{Spot}
use Rattle.scenario_format.specs.Json.Items.{read_items, each}
use Rattle.scenario_format.specs.declared.refusal.RefusalKind.TheVariants.{BadField, FrameTwice, FrameAbsent}
use Rattle.scenario_format.specs.Scenarios.Frames.{number_within}

-- the run of pages of these numbers; a run without a page is refused, and so is one that does not begin at a multiple
-- of 4096 or goes past the end of the addresses for pages
abbrev pub page_run_of : DocumentPlace → ℕ → ℕ → ℕ → Read PageRun
page_run_of place va frame count =
    if nat_le 1 count && (va % 4096 == 0) && nat_le (va + 4096 * count) pages_end
    then Ok (record { va = record { 0 = va }; frame = frame; count = count }) else refuse BadField place

-- the run of pages that a list of three numbers gives
abbrev pub page_run_in : DocumentPlace → List Data → Read PageRun
page_run_in place [] = refuse BadField place
page_run_in place (a ∷ []) = refuse BadField place
page_run_in place (a ∷ b ∷ []) = refuse BadField place
page_run_in place (a ∷ b ∷ c ∷ []) =
    number_within place a >>= (λ va.
    number_within place b >>= (λ frame.
    number_within place c >>= (λ count.
    page_run_of place va frame count)))
page_run_in place (a ∷ b ∷ c ∷ d ∷ more) = refuse BadField place

-- a run of pages is refused if it has a frame that the machine does not have, a frame that an earlier page has, or a
-- virtual page that this driver already has
abbrev pub page_run_judged : List FrameRun → List Driver → List PageRun → DocumentPlace → PageRun → Read PageRun
page_run_judged frames earlier before place run =
    if not (all_in frames run.frame run.count) then refuse FrameAbsent place
    else (if is_taken run earlier || list_any (share_frame run) before then refuse FrameTwice place
    else (if list_any (share_page run) before then refuse BadField place
    else Ok run))

-- a run of pages, read by itself
unfoldable pub read_page_values : Spot → Read PageRun
read_page_values here = read_items here >>= page_run_in here.place

-- a run of pages, judged by the drivers and the runs before it
unfoldable pub read_page_run : List FrameRun → List Driver → List PageRun → Spot → Read PageRun
read_page_run frames earlier before here = read_page_values here >>= page_run_judged frames earlier before here.place

-- the list of a driver's runs of pages
unfoldable pub read_pages : List FrameRun → List Driver → Spot → Read (List PageRun)
read_pages frames earlier here = read_items here >>= each (read_page_run frames earlier) here []
