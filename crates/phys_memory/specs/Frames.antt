-- Frames of a memory, and pages that are not in it.
use Rattle.std.specs.Prelude.{◌≡◌, ◌≢◌, ℕ, false, List}
use Rattle.std.specs.List.{All, AllByRecursion, AllPairs}
use Rattle.busdma_machine.specs.declared.machine.address.Extent.{Extent}
use Rattle.busdma_machine.specs.Runs.{IsExtent}
use Rattle.phys_memory.specs.Extents.{LiesInFrames}
use Rattle.phys_memory.specs.Memory.{FrameMemory, memory_has_frame}

-- these extents lie in the memory's frames; each has a byte and lies in one frame
pub record Lie (m : FrameMemory) (es : List Extent) : Type 0 where
  pub extents : AllByRecursion IsExtent es
  pub frames : AllByRecursion (LiesInFrames m) es

-- two memories have the same pages in the same frames
pub record SamePages (m n : FrameMemory) : Type 0 where
  pub table : n.table ≡ m.table
  pub frames : (f : ℕ) → memory_has_frame n f ≡ memory_has_frame m f

-- these frames differ, and none of them is in the memory
pub record AreApart (m : FrameMemory) (frames : List ℕ) : Type 0 where
  pub differ : AllPairs (λ f g. f ≢ g) frames
  pub away : All (λ f. memory_has_frame m f ≡ false) frames
