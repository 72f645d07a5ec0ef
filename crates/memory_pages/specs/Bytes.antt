-- The bytes that the pages of a dmamem memory bring and take with them.
use Rattle.std.specs.Prelude.{ℕ, ◌/◌, Bool, List, [], map, replicate, unwrap_or, if◌then◌else◌}
use Rattle.std.specs.FinMap.{get}
use Rattle.busdma_machine.specs.Machine.Page.{FrameBytes}
use Rattle.phys_memory.specs.Memory.{FrameMemory}

-- a page with 0 in every byte if it is to be cleared, and otherwise as it is
abbrev pub filled : Bool → FrameBytes → FrameBytes
filled clear p = if clear then record { frame = p.frame; bytes = replicate 4096 0 } else p

-- pages with 0 in every byte if they are to be cleared, and otherwise as they are
abbrev pub all_filled : Bool → List FrameBytes → List FrameBytes
all_filled clear pages = map (filled clear) pages

-- the page of the frame at a physical address, with the bytes that a memory has of it
abbrev pub page_of : FrameMemory → ℕ → FrameBytes
page_of m address = record { frame = address / 4096; bytes = unwrap_or (get m.frames (address / 4096)) [] }

-- the pages of the frames at several physical addresses, with the bytes that a memory has of them
abbrev pub memory_pages_of : FrameMemory → List ℕ → List FrameBytes
memory_pages_of m addresses = map (page_of m) addresses
