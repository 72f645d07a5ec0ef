-- Where the bytes of a load's chunks are held.
use Rattle.std.specs.Prelude.{◌≡◌, ℕ, ◌/◌, List, is_some}
use Rattle.std.specs.List.{filter}
use Rattle.busdma_machine.specs.declared.machine.chunk.Chunk.{Chunk}
use Rattle.busdma_machine.specs.Runs.{IsExtent}
use Rattle.phys_memory.specs.Frames.{Lie}
use Rattle.phys_memory.specs.Memory.{FrameMemory}
use Rattle.busdma_rules.specs.Segments.Trace.{bus_extent, chunk_extents}

-- the chunks that have a page, in order
abbrev pub paged : List Chunk → List Chunk
paged cs = filter (λ c. is_some c.page) cs

-- a chunk's bytes lie in frames of the memory, and its bus bytes in the frame of this number
pub record IsPageHeld (m : FrameMemory) (c : Chunk) (frame : ℕ) : Type 0 where
  pub buffer : Lie m (chunk_extents c)
  pub bus : IsExtent (bus_extent c)
  pub page : (bus_extent c).pa.0 / 4096 ≡ frame
