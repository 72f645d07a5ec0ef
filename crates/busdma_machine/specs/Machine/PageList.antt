-- Where pages lie, and what contracts see of a list of pages.
use Rattle.std.specs.Prelude.{ℕ, ◌*◌, List, map}
use Rattle.busdma_machine.specs.Machine.Page.{FrameBytes}

-- pages in order, and for how many there is room
pub record RoomyPages : Type 0 where
  pub items : List FrameBytes
  pub room : ℕ

-- the physical address of a page's first byte
abbrev pub page_address : FrameBytes → ℕ
page_address p = 4096 * p.frame

-- the physical addresses of the first bytes of pages, in order
abbrev pub page_addresses : List FrameBytes → List ℕ
page_addresses pages = map page_address pages

-- the frame numbers of pages, in order
abbrev pub page_frames : List FrameBytes → List ℕ
page_frames pages = map (λ p. p.frame) pages
