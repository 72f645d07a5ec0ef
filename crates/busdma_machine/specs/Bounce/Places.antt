-- Where the frames of an account are.
use Rattle.std.specs.Prelude.{ℕ, ◌+◌, Bool, List, length, ◌==◌}
use Rattle.std.specs.List.{count_by, sum_by}
use Rattle.busdma_machine.specs.Bounce.Account.{Account}

-- how often a frame is in a list of frames
abbrev pub times : ℕ → List ℕ → ℕ
times p frames = count_by (λ f. f == p) frames

-- how often a page is among the pages that maps hold
abbrev pub times_lent : ℕ → Account → ℕ
times_lent p a = count_by (λ h. h.page == p) a.held

-- how many frames that pass a test are in the bank, in the zones' lists, with maps and in memories, all together
abbrev pub frames_where : (ℕ → Bool) → Account → ℕ
frames_where chosen a =
    count_by chosen a.bank + (sum_by (λ z. count_by chosen z.avail) a.zones
    + (count_by (λ h. chosen h.page) a.held + sum_by (λ m. count_by chosen m.frames) a.mems))

-- how many frames are in the bank, in the zones' lists, with maps and in memories, all together
abbrev pub frame_total : Account → ℕ
frame_total a =
    length a.bank + (sum_by (λ z. length z.avail) a.zones + (length a.held + sum_by (λ m. length m.frames) a.mems))

-- how often a frame is in the bank, in the zones' lists, with maps and in memories, all together
abbrev pub places : ℕ → Account → ℕ
places p = frames_where (λ f. f == p)
