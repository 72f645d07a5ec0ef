-- The frames of the machine. A frame has 4096 bytes; frame f holds the bytes from 4096 * f on.
use Rattle.std.specs.Prelude.{◌≡◌, ℕ, ◌+◌, ◌≤◌, Bool, false, ◌&&◌, List, nat_le, nat_lt, sum_by}
use Rattle.std.specs.List.{list_any}
use Rattle.busdma_base.specs.declared.scenarios.scenario.FrameRun.{FrameRun}
use Rattle.busdma_machine.specs.Runs.{meet}
use Rattle.busdma_base.specs.Scenarios.Limits.{frames_limit, frame_numbers}

-- a frame is in a run of frames
abbrev pub is_in : ℕ → FrameRun → Bool
is_in frame run = nat_le run.first frame && nat_lt frame (run.first + run.count)

-- two runs of frames share a frame
abbrev pub overlap : FrameRun → FrameRun → Bool
overlap a b = meet a.first a.count b.first b.count

-- how many frames these runs have together
abbrev pub frame_count : List FrameRun → ℕ
frame_count runs = sum_by (λ run. run.count) runs

-- the frames of a run have numbers below the limit
abbrev pub IsNumbered : FrameRun → Type 0
IsNumbered run = run.first + run.count ≤ frame_numbers

-- a valid run of frames: it has a frame, keeps the limits on frame numbers and on the number of frames, and shares no
-- frame with a run before it
pub record IsFrameRun (before : List FrameRun) (run : FrameRun) : Type 0 where
  pub some : 1 ≤ run.count
  pub numbered : IsNumbered run
  pub few : frame_count before + run.count ≤ frames_limit
  pub apart : list_any (overlap run) before ≡ false
