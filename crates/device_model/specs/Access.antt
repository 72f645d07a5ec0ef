-- The bytes of a device's access, and their places.
use Rattle.std.specs.Prelude.{◌≡◌, ℕ, ◌/◌, ◌^◌, ◌<◌, ◌==◌, ◌||◌, true, List, take, drop}
use Rattle.std.specs.List.{list_any}
use Rattle.busdma_machine.specs.declared.machine.address.Segment.{Segment}
use Rattle.phys_memory.specs.Memory.{FrameMemory, memory_has_frame}
use Rattle.busdma_rules.specs.Segments.Segmentation.{segment_bytes}

-- the bus addresses of the bytes of a load from off to off + len - 1
abbrev pub bus_range : ℕ → ℕ → List Segment → List ℕ
bus_range off len segments = take len (drop off (segment_bytes segments))

-- the address is below 2^42, and the byte lies in a frame of the memory or in one of these frames
pub record IsThere (m : FrameMemory) (frames : List ℕ) (a : ℕ) : Type 0 where
  pub numbered : a < 2 ^ 42
  pub found : memory_has_frame m (a / 4096) || list_any (λ f. a / 4096 == f) frames ≡ true
