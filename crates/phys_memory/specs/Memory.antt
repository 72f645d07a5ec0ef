-- The memory of a driver. A page has 4096 bytes, both at virtual addresses and in a frame.
use Rattle.std.specs.Prelude.{◌≡◌, ℕ, ◌+◌, ◌*◌, ◌/◌, ◌%◌, ◌-◌, ◌^◌, ◌<◌, ◌≤◌, Bool, true, ◌&&◌, if◌then◌else◌, nat_lt}
use Rattle.std.specs.Prelude.{nat_le, List, [], length, slice_index, Option, Some, None, unwrap_or}
use Rattle.std.specs.Ordering.{nat_cmp}
use Rattle.std.specs.FinMap.{FinMap, get, contains_key, insert, remove}
use Rattle.phys_memory.specs.declared.reach.Reach.{Reach}
use Rattle.busdma_machine.specs.Machine.Page.{FrameBytes, overwritten}
use Rattle.busdma_rules.specs.Memory.Translation.{Translation}

-- a driver's pages by their number (the virtual address / 4096), and the bytes of its frames by the frame's
-- number
pub record FrameMemory : Type 0 where
  pub table : FinMap nat_cmp Reach
  pub frames : FinMap nat_cmp (List ℕ)

-- a memory, and how many more pages it has room for
pub record RoomyFrames : Type 0 where
  pub memory : FrameMemory
  pub spare : ℕ

-- the physical address of a byte of a page, if the byte can be reached
abbrev pub reached_in : Option Reach → ℕ → Option ℕ
reached_in None at = None
reached_in (Some r) at = if nat_lt at r.reach then Some (4096 * r.frame + at) else None

-- the row of the page of a virtual address, if there is one; none from 2^64 on
abbrev pub row_at : FrameMemory → ℕ → Option Reach
row_at m va = if nat_lt va (2 ^ 64) then get m.table (va / 4096) else None

-- the physical address of a virtual address, if the driver can reach it
abbrev pub memory_physical : FrameMemory → Translation
memory_physical m va = reached_in (row_at m va) (va % 4096)

-- the byte of a frame at a place, or 0 if there is no frame
abbrev pub byte_in : Option (List ℕ) → ℕ → ℕ
byte_in None at = 0
byte_in (Some bytes) at = slice_index bytes at

-- the byte at a physical address, or 0 if the memory has no such frame
abbrev pub wire : FrameMemory → ℕ → ℕ
wire m pa = byte_in (get m.frames (pa / 4096)) (pa % 4096)

-- whether the memory has the frame with this number
abbrev pub memory_has_frame : FrameMemory → ℕ → Bool
memory_has_frame m frame = contains_key m.frames frame

-- whether there is a page at a virtual address
abbrev pub memory_has_page : FrameMemory → ℕ → Bool
memory_has_page m va = contains_key m.table (va / 4096)

-- the memory with one more page, at a virtual address, of which a number of first bytes can be reached
abbrev pub with_page : FrameMemory → ℕ → FrameBytes → ℕ → FrameMemory
with_page m va page reach = record {
  table = insert m.table (va / 4096) (record { frame = page.frame; reach = reach });
  frames = insert m.frames page.frame page.bytes;
}

-- the page that `add` hands back: the given one, if there is a page at the virtual address already
abbrev pub handed_back : FrameMemory → ℕ → FrameBytes → Option FrameBytes
handed_back m va page = if memory_has_page m va then Some page else None

-- the memory that `add` leaves
abbrev pub frame_added : FrameMemory → ℕ → FrameBytes → ℕ → FrameMemory
frame_added m va page reach = if memory_has_page m va then m else with_page m va page reach

-- the page of a row, with the bytes of its frame
abbrev pub page_of : FrameMemory → Option Reach → Option FrameBytes
page_of m None = None
page_of m (Some r) = Some (record { frame = r.frame; bytes = unwrap_or (get m.frames r.frame) [] })

-- the page at a virtual address, if there is one
abbrev pub page_at : FrameMemory → ℕ → Option FrameBytes
page_at m va = page_of m (get m.table (va / 4096))

-- the memory without the virtual page that has this row, and without its frame
abbrev pub without_row : FrameMemory → ℕ → Option Reach → FrameMemory
without_row m v None = m
without_row m v (Some r) = record { table = remove m.table v; frames = remove m.frames r.frame }

-- the memory without the page at a virtual address, if there is one
abbrev pub without_page : FrameMemory → ℕ → FrameMemory
without_page m va = without_row m (va / 4096) (get m.table (va / 4096))

-- the memory after bytes were written into one frame, from a physical address on
abbrev pub rewritten : FrameMemory → ℕ → List ℕ → FrameMemory
rewritten m pa bytes =
    let frame = unwrap_or (get m.frames (pa / 4096)) [] in
    record m { frames = insert m.frames (pa / 4096) (overwritten frame (pa % 4096) bytes) }

-- the byte at each address after bytes were written from an address on; w has the bytes before that
abbrev pub memory_written : ℕ → List ℕ → (ℕ → ℕ) → ℕ → ℕ
memory_written pa bytes w a = if nat_le pa a && nat_lt a (pa + length bytes) then slice_index bytes (a - pa) else w a

-- each page has a frame of its own that is in the memory, and at most 4096 bytes of it can be reached; each
-- frame has a number below 2^30 and 4096 bytes
pub record IsMemory (m : FrameMemory) : Type 0 where
  pub reached : (v : ℕ) (r : Reach) → get m.table v ≡ Some r → r.reach ≤ 4096
  pub there : (v : ℕ) (r : Reach) → get m.table v ≡ Some r → memory_has_frame m r.frame ≡ true
  pub apart : (v w : ℕ) (r s : Reach) → get m.table v ≡ Some r → get m.table w ≡ Some s → r.frame ≡ s.frame → v ≡ w
  pub numbered : (f : ℕ) (bytes : List ℕ) → get m.frames f ≡ Some bytes → f < 2 ^ 30
  pub whole : (f : ℕ) (bytes : List ℕ) → get m.frames f ≡ Some bytes → length bytes ≡ 4096

-- each row of a memory has a frame of the memory below 2^30, and at most 4096 bytes of it can be reached
pub record IsReachOf (m : FrameMemory) (r : Reach) : Type 0 where
  pub reached : r.reach ≤ 4096
  pub there : memory_has_frame m r.frame ≡ true
  pub numbered : r.frame < 2 ^ 30
