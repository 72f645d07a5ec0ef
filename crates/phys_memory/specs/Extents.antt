-- Extents in the frames of a memory, and the next extent of a walk.
use Rattle.std.specs.Prelude.{◌≡◌, ℕ, ◌+◌, ◌/◌, ◌%◌, ◌-◌, ◌≤◌, true, List, [], ◌∷◌, ◌++◌}
use Rattle.busdma_machine.specs.declared.machine.address.Extent.{Extent}
use Rattle.busdma_machine.specs.Runs.{IsExtent, run_of}
use Rattle.phys_memory.specs.Memory.{FrameMemory, memory_has_frame}
use Rattle.busdma_rules.specs.Memory.Translation.{Translation}
use Rattle.busdma_rules.specs.Memory.Extents.{reached_addresses}

-- the first byte of the extent is in a frame of the memory
abbrev pub LiesInFrames : FrameMemory → Extent → Type 0
LiesInFrames m e = memory_has_frame m (e.pa.0 / 4096) ≡ true

-- the first of these addresses, if there is one, begins a frame
abbrev pub BeginsFrame : List ℕ → Type 0
BeginsFrame [] = Unit {0}
BeginsFrame (pa ∷ pas) = pa % 4096 ≡ 0

-- the extent has the first of n bytes from a virtual address on, and all bytes after it that can be reached
-- in its frame
pub record IsNext (t : Translation) (va n : ℕ) (e : Extent) : Type 0 where
  pub extent : IsExtent e
  pub short : e.len ≤ n
  pub others : reached_addresses t va n ≡ run_of e.pa.0 e.len ++ reached_addresses t (va + e.len) (n - e.len)
  pub cut : BeginsFrame (reached_addresses t (va + e.len) (n - e.len))
