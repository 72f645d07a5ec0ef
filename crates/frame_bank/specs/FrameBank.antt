-- The bank of free frames.
use Rattle.std.specs.Prelude.{ℕ, ◌^◌, ◌<◌, ◌≤◌, Bool, not, List, [], ◌∷◌, length, replicate, Option, Some, None}
use Rattle.std.specs.Prelude.{nat_lt, if◌then◌else◌}
use Rattle.std.specs.List.{All, filter}
use Rattle.busdma_machine.specs.Machine.Page.{FrameBytes}
use Rattle.busdma_machine.specs.Bounce.History.{IsRising}
use Rattle.busdma_machine.specs.Bounce.MemoryRuns.{in_run, frames_in, frames_but}
use Rattle.busdma_machine.specs.Machine.PageList.{page_address, page_addresses}

-- a bank: the pages of its free frames, rising, and the number of frames that it has room for
pub record Bank : Type 0 where
  pub pages : List FrameBytes
  pub room : ℕ

-- the physical addresses of the free frames of a bank
abbrev pub free_frames : Bank → List ℕ
free_frames b = page_addresses b.pages

-- a frame of a new bank: each byte is 0xA5
abbrev pub fresh_page : ℕ → FrameBytes
fresh_page frame = record { frame = frame; bytes = replicate 4096 0xa5 }

-- the pages with one more, put in its place by frame number
abbrev pub put_page : FrameBytes → List FrameBytes → List FrameBytes
put_page p [] = p ∷ []
put_page p (q ∷ qs) = if nat_lt p.frame q.frame then p ∷ q ∷ qs else q ∷ put_page p qs

-- the pages with others put among them, each in its place by frame number
abbrev pub put_pages : List FrameBytes → List FrameBytes → List FrameBytes
put_pages [] qs = qs
put_pages (p ∷ ps) qs = put_page p (put_pages ps qs)

-- the frames that are among the n frames from the first of a run on, or none if there is no run
abbrev pub run_frames : Option ℕ → ℕ → List ℕ → Option (List ℕ)
run_frames None n frames = None
run_frames (Some first) n frames = Some (frames_in first n frames)

-- the frames that are not among the n frames from the first of a run on, or all if there is no run
abbrev pub frames_left : Option ℕ → ℕ → List ℕ → List ℕ
frames_left None n frames = frames
frames_left (Some first) n frames = frames_but first n frames

-- a page is one of the n frames from an address on
abbrev pub is_in_bank_run : ℕ → ℕ → FrameBytes → Bool
is_in_bank_run first n p = in_run first n (page_address p)

-- the pages that are among the n frames from the first of a run on, or none if there is no run
abbrev pub run_pages : Option ℕ → ℕ → List FrameBytes → Option (List FrameBytes)
run_pages None n pages = None
run_pages (Some first) n pages = Some (filter (is_in_bank_run first n) pages)

-- the pages that are not among the n frames from the first of a run on, or all if there is no run
abbrev pub pages_left : Option ℕ → ℕ → List FrameBytes → List FrameBytes
pages_left None n pages = pages
pages_left (Some first) n pages = filter (λ p. not (is_in_bank_run first n p)) pages

-- what is true of each bank: its pages rise, their frames have numbers below 2^30, it has room for all of them, and
-- that room is for at most 8192 frames
pub record IsBank (b : Bank) : Type 0 where
  pub rising : IsRising (free_frames b)
  pub numbered : All (λ p. p.frame < 2 ^ 30) b.pages
  pub roomy : length b.pages ≤ b.room
  pub few : b.room ≤ 8192
