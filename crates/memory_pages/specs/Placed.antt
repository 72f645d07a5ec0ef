-- The virtual addresses of the frames of dmamem memories among the pages of a driver: each frame is at a fixed distance
-- from its physical address, so the frames of a memory follow one another.
use Rattle.std.specs.Prelude.{◌≡◌, ℕ, ◌+◌, ◌-◌, ◌*◌, ◌/◌, ◌≤◌, min, Bool, true, false, ◌&&◌, ◌||◌, Option, Some, None}
use Rattle.std.specs.Prelude.{if◌then◌else◌, nat_le, nat_lt}
use Rattle.std.specs.FinMap.{get}
use Rattle.std.specs.Option.{option_map}
use Rattle.busdma_machine.specs.Bounce.MemoryRuns.{in_run}
use Rattle.busdma_machine.specs.Machine.VirtualPages.{pages_end}
use Rattle.busdma_rules.specs.Memory.Memories.{virtual_of}
use Rattle.phys_memory.specs.declared.reach.Reach.{Reach}
use Rattle.phys_memory.specs.Memory.{FrameMemory, memory_has_frame}

-- a virtual page, by its number, is one of the pages of the n frames from a physical address on
abbrev pub is_page : ℕ → ℕ → ℕ → Bool
is_page first n v = in_run (virtual_of first) n (4096 * v)

-- a frame, by its number, is one of the n frames from a physical address on
abbrev pub is_frame : ℕ → ℕ → ℕ → Bool
is_frame first n f = in_run first n (4096 * f)

-- a virtual address is one of the `len` bytes of a memory whose first lies at a physical address
abbrev pub is_byte : ℕ → ℕ → ℕ → Bool
is_byte first len va = nat_le (virtual_of first) va && nat_lt va (virtual_of first + len)

-- the frame of a virtual page of a dmamem memory, both by number
abbrev pub frame_of : ℕ → ℕ
frame_of v = v - pages_end / 4096

-- the row of a virtual page of a memory of `len` bytes: the page's frame, and how many of the bytes lie there
abbrev pub row_of : ℕ → ℕ → ℕ → Reach
row_of first len v = record { frame = frame_of v; reach = min 4096 (len - (4096 * v - virtual_of first)) }

-- the n frames from a physical address on are at the virtual addresses of a memory of `len` bytes
abbrev pub IsMemoryPlaced : FrameMemory → ℕ → ℕ → ℕ → Type 0
IsMemoryPlaced m first n len = (v : ℕ) → is_page first n v ≡ true → get m.table v ≡ Some (row_of first len v)

-- the frame of a virtual page, if the page has one
abbrev pub frame_at : FrameMemory → ℕ → Option ℕ
frame_at m v = option_map (λ r. r.frame) (get m.table v)

-- the virtual page of each of the n frames from a physical address on has that frame
abbrev pub HasFrames : FrameMemory → ℕ → ℕ → Type 0
HasFrames m first n = (v : ℕ) → is_page first n v ≡ true → frame_at m v ≡ Some (frame_of v)

-- the row of a virtual page has the page's own frame, and the memory has that frame
pub record IsAtItsFrame (m : FrameMemory) (v : ℕ) (r : Reach) : Type 0 where
  pub own : v ≡ pages_end / 4096 + r.frame
  pub there : memory_has_frame m r.frame ≡ true

-- each virtual page in the range of dmamem memories has its own frame, and the memory has that frame
abbrev pub AreAtTheirFrames : FrameMemory → Type 0
AreAtTheirFrames m = (v : ℕ) (r : Reach) → get m.table v ≡ Some r → pages_end / 4096 ≤ v → IsAtItsFrame m v r

-- the memory has none of the n frames from a physical address on
abbrev pub IsWithout : FrameMemory → ℕ → ℕ → Type 0
IsWithout m first n = (f : ℕ) → is_frame first n f ≡ true → memory_has_frame m f ≡ false

-- the n frames from a physical address on came as those of a memory of `len` bytes, and no other frame came or went
pub record Comes (old new : FrameMemory) (first n len : ℕ) : Type 0 where
  pub rows : (v : ℕ) → get new.table v ≡ (if is_page first n v then Some (row_of first len v) else get old.table v)
  pub frames : (f : ℕ) → memory_has_frame new f ≡ (is_frame first n f || memory_has_frame old f)

-- the n frames from a physical address on went with their virtual pages, and all other frames and pages stayed
pub record Goes (old new : FrameMemory) (first n : ℕ) : Type 0 where
  pub rows : (v : ℕ) → get new.table v ≡ (if is_page first n v then None else get old.table v)
  pub frames : (f : ℕ) → get new.frames f ≡ (if is_frame first n f then None else get old.frames f)
