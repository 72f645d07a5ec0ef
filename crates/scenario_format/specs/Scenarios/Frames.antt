-- The frames of the machine, as they are read.
use Rattle.std.specs.Prelude.{ℕ, ◌+◌, List, [], ◌∷◌, Ok, if◌then◌else◌, nat_le, nat_lt}
use Rattle.std.specs.List.{list_any}
use Rattle.serde_json.specs.Data.{Data}
use Rattle.busdma_base.specs.declared.scenarios.scenario.FrameRun.{FrameRun}
use Rattle.busdma_base.specs.Scenarios.FrameRuns.{frame_count, overlap}
use Rattle.scenario_format.specs.Json.DocumentPlaces.{DocumentPlace}
use Rattle.scenario_format.specs.Json.Read.{Read, ◌>>=◌, refuse}
use Rattle.scenario_format.specs.Json.Field.{Spot}
use Rattle.scenario_format.specs.Json.Number.{read_number}
use Rattle.scenario_format.specs.Json.Items.{read_items, each}
use Rattle.scenario_format.specs.declared.refusal.RefusalKind.TheVariants.{BadField, Limit, FrameTwice}
use Rattle.scenario_format.specs.declared.refusal.LimitName.TheVariants.{Frames, FrameNumber}
use Rattle.busdma_base.specs.Scenarios.Limits.{frames_limit, frame_numbers}

-- a number in a list of numbers; a bad one is refused with the list's place
abbrev pub number_within : DocumentPlace → Data → Read ℕ
number_within place d = read_number (record { place = place; value = d })

-- a run of frames; one without a frame is refused
abbrev pub frame_run_of : DocumentPlace → ℕ → ℕ → Read FrameRun
frame_run_of place first count =
    if nat_le 1 count then Ok (record { first = first; count = count }) else refuse BadField place

-- the run of frames that a list of two numbers gives
abbrev pub run_in : DocumentPlace → List Data → Read FrameRun
run_in place [] = refuse BadField place
run_in place (a ∷ []) = refuse BadField place
run_in place (a ∷ b ∷ []) =
    number_within place a >>= (λ first. number_within place b >>= (λ count. frame_run_of place first count))
run_in place (a ∷ b ∷ c ∷ more) = refuse BadField place

-- a run of frames is refused if it passes the limit on frame numbers or the limit on all frames, or has a frame of an
-- earlier run
abbrev pub run_judged : List FrameRun → DocumentPlace → FrameRun → Read FrameRun
run_judged before place run =
    if nat_lt frame_numbers (run.first + run.count) then refuse (Limit FrameNumber) place
    else (if nat_lt frames_limit (frame_count before + run.count) then refuse (Limit Frames) place
    else (if list_any (overlap run) before then refuse FrameTwice place
    else Ok run))

-- a run of frames, read by itself
unfoldable pub read_run : Spot → Read FrameRun
read_run here = read_items here >>= run_in here.place

-- a run of frames, judged by the runs before it
unfoldable pub read_frame_run : List FrameRun → Spot → Read FrameRun
read_frame_run before here = read_run here >>= run_judged before here.place

-- the list of the machine's runs of frames
unfoldable pub read_frame_runs : Spot → Read (List FrameRun)
read_frame_runs here = read_items here >>= each read_frame_run here []
