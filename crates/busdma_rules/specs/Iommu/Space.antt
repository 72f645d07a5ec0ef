-- The address space of a device behind an IOMMU, in pages of 4096 bytes: which pages are mapped to which frames. That
-- the run with the least first page is taken is this project's own rule.
use Rattle.std.specs.Prelude.{ℕ, zero, suc, ◌+◌, ◌-◌, ◌*◌, ◌/◌, ◌%◌, ◌^◌, ◌<◌, ◌≤◌, ◌==◌, Bool, not, ◌&&◌}
use Rattle.std.specs.Prelude.{if◌then◌else◌, nat_le, nat_lt, List, [], ◌∷◌, length, Option, Some, None, slice_get}
use Rattle.std.specs.Option.{option_map}
use Rattle.std.specs.List.{All, filter, list_any}
use Rattle.busdma_machine.specs.Runs.{meet}

-- a run of device pages: the pages from `first` on are mapped to these frames, one page for each, in order
pub record DeviceRun : Type 0 where
  pub first : ℕ
  pub frames : List ℕ

-- the address space of a device: it reaches the pages below `pages`; the pages of the live runs are mapped to frames
pub record Space : Type 0 where
  pub pages : ℕ
  pub runs : List DeviceRun

-- the first page after a run
abbrev pub run_end : DeviceRun → ℕ
run_end r = r.first + length r.frames

-- a page is one of the run's pages
abbrev pub has_page : ℕ → DeviceRun → Bool
has_page p r = nat_le r.first p && nat_lt p (run_end r)

-- one of the k pages from `first` on is one of the run's pages
abbrev pub meets : ℕ → ℕ → DeviceRun → Bool
meets first k r = meet first k r.first (length r.frames)

-- the k pages from `first` on can be taken: page 0 is not among them, the device reaches all of them, and no live run
-- has one of them
abbrev pub may_take : Space → ℕ → ℕ → Bool
may_take s k first = nat_le 1 first && (nat_le (first + k) s.pages && not (list_any (meets first k) s.runs))

-- the least of the n numbers from a on that passes a test, if one does
abbrev pub least_from : (ℕ → Bool) → ℕ → ℕ → Option ℕ
least_from test a zero = None
least_from test a (suc n) = if test a then Some a else least_from test (a + 1) n

-- the least page from which on k pages can be taken, if there is one
abbrev pub first_free : Space → ℕ → Option ℕ
first_free s k = least_from (may_take s k) 0 s.pages

-- runs that rise with one more run, in its place
abbrev pub put_run : DeviceRun → List DeviceRun → List DeviceRun
put_run r [] = r ∷ []
put_run r (q ∷ qs) = if nat_lt r.first q.first then r ∷ q ∷ qs else q ∷ put_run r qs

-- the space with one more run of these frames from a first page on, or the same space if there is no such page
abbrev pub entered : Option ℕ → List ℕ → Space → Space
entered None frames s = s
entered (Some first) frames s = record s { runs = put_run (record { first = first; frames = frames }) s.runs }

-- a run begins at this page
abbrev pub begins_at : ℕ → DeviceRun → Bool
begins_at first r = r.first == first

-- a live run of the space begins at this page
abbrev pub is_live : Space → ℕ → Bool
is_live s first = list_any (begins_at first) s.runs

-- the space without the runs that begin at this page
abbrev pub run_unmapped : ℕ → Space → Space
run_unmapped first s = record s { runs = filter (λ r. not (begins_at first r)) s.runs }

-- the frame to which a page is mapped, by the first of these runs that has it
abbrev pub frame_of_page : List DeviceRun → ℕ → Option ℕ
frame_of_page [] p = None
frame_of_page (r ∷ rs) p = if has_page p r then slice_get r.frames (p - r.first) else frame_of_page rs p

-- the physical address of the byte at a device address: it has the same offset in its frame as in its device page
abbrev pub translated : Space → ℕ → Option ℕ
translated s a = option_map (λ f. 4096 * f + a % 4096) (frame_of_page s.runs (a / 4096))

-- a run of device pages from `low` on and below `high`, with at least one frame and with frame numbers below 2^30
pub record IsRunIn (low high : ℕ) (r : DeviceRun) : Type 0 where
  pub behind : low ≤ r.first
  pub some : 0 < length r.frames
  pub reached : run_end r ≤ high
  pub numbered : All (λ f. f < 2 ^ 30) r.frames

-- runs of device pages from `low` on and below `high` that rise: each begins at or after the end of the one before it
abbrev pub AreSpaceRuns : ℕ → ℕ → List DeviceRun → Type 0
AreSpaceRuns low high [] = Unit {0}
AreSpaceRuns low high (r ∷ rs) = IsRunIn low high r × AreSpaceRuns (run_end r) high rs

-- what is true of each space: the addresses of its pages are below 2^64, and its runs rise from page 1 on
pub record IsSpace (s : Space) : Type 0 where
  pub few : s.pages ≤ 2 ^ 52
  pub runs : AreSpaceRuns 1 s.pages s.runs

-- the first page from `low` on at which k pages fit before, between or after runs that rise. This is what private steps
-- of the code do; no public clause cites it.
abbrev pub gap : ℕ → ℕ → List DeviceRun → ℕ
gap low k [] = low
gap low k (r ∷ rs) = if nat_le (low + k) r.first then low else gap (run_end r) k rs
