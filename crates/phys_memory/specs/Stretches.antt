-- Consecutive pages in the form in which a memory keeps them. No public clause cites these definitions.
use Rattle.std.specs.Prelude.{◌≡◌, ℕ, ◌+◌, ◌-◌, ◌/◌, ◌%◌, ◌^◌, ◌<◌, ◌≤◌, ◌==◌, Bool, ◌&&◌, if◌then◌else◌, nat_lt}
use Rattle.std.specs.Prelude.{nat_le}
use Rattle.std.specs.Prelude.{List, Option, Some, None, slice_get}
use Rattle.std.specs.Ordering.{nat_cmp}
use Rattle.std.specs.FinMap.{FinMap, get}
use Rattle.phys_memory.specs.declared.reach.Reach.{Reach}
use Rattle.phys_memory.specs.declared.stretch.Stretch.{Stretch}

-- the row of a page that can be reached completely
abbrev pub whole : ℕ → Reach
whole frame = record { frame = frame; reach = 4096 }

-- the memory has each page of a stretch: it can be reached completely, and has the frame that the stretch says
pub record IsKnown (t : FinMap nat_cmp Reach) (s : Stretch) : Type 0 where
  pub rows : (k : ℕ) → k < s.count → get t (s.page + k) ≡ Some (whole (s.frame + k))
  pub low : s.page + s.count ≤ 2 ^ 52
  pub fits : s.frame + s.count ≤ 2 ^ 30

-- the place at which a memory keeps the stretch of a page
abbrev pub slot_of : ℕ → ℕ
slot_of page = (page / 256 + page / 256 / 16 + page / 256 / 256 + page / 256 / 4096) % 16

-- the memory has each page of a stretch, and keeps the stretch at the place of each of these pages
pub record StandsInStretch (t : FinMap nat_cmp Reach) (i : ℕ) (s : Stretch) : Type 0 where
  pub known : IsKnown t s
  pub slot : (k : ℕ) → k < s.count → slot_of (s.page + k) ≡ i

-- the memory has the pages of each stretch that it keeps, and keeps it at the place of each of these pages
abbrev pub AreStretches : FinMap nat_cmp Reach → List Stretch → Type 0
AreStretches t ss = (i : ℕ) (s : Stretch) → slice_get ss i ≡ Some s → StandsInStretch t i s

-- the stretch of no page
abbrev pub no_stretch : Stretch
no_stretch = record { page = 0; frame = 0; count = 0 }

-- whether a stretch has a page
abbrev pub stretch_has_page : Stretch → ℕ → Bool
stretch_has_page s page = nat_le s.page page && nat_lt (page - s.page) s.count

-- the frame of a page, if the stretch has the page
abbrev pub frame_in : Stretch → ℕ → Option ℕ
frame_in s page = if stretch_has_page s page then Some (s.frame + (page - s.page)) else None

-- whether a number comes right after so many numbers from a first one on
abbrev pub follows : ℕ → ℕ → ℕ → Bool
follows from count next = nat_le from next && next - from == count

-- whether a page in a frame comes right after a stretch
abbrev pub stretch_goes_on : Stretch → ℕ → ℕ → Bool
stretch_goes_on s page frame = follows s.page s.count page && follows s.frame s.count frame

-- a stretch with one more page; if the page does not come right after it, a stretch of only this page, unless
-- the old one is long
abbrev pub longer : Stretch → ℕ → ℕ → Stretch
longer s page frame =
    if stretch_goes_on s page frame then record s { count = s.count + 1 }
    else if nat_le 16 s.count then s else record { page = page; frame = frame; count = 1 }

-- a stretch after a page with this row was added to the memory
abbrev pub stretch_grown : Stretch → ℕ → Reach → Stretch
stretch_grown s page r = if r.reach == 4096 then longer s page r.frame else s

-- a stretch without a page and the pages after it
abbrev pub cut_at : Stretch → ℕ → Stretch
cut_at s page = if stretch_has_page s page then record s { count = page - s.page } else s
