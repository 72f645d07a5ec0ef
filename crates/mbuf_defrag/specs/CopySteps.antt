-- What the private steps of a copy do; no public clause cites them.
use Rattle.std.specs.Prelude.{◌≡◌, ℕ, ◌/◌, ◌^◌, ◌<◌, true, List, [], ◌∷◌, drop}
use Rattle.busdma_machine.specs.declared.machine.address.Extent.{Extent}
use Rattle.busdma_machine.specs.Runs.{addresses}
use Rattle.phys_memory.specs.Memory.{FrameMemory, memory_has_frame}
use Rattle.mbuf_defrag.specs.declared.cursor.Cursor.{Cursor}

-- the addresses of the bytes of extents, from a place in one of them on
abbrev pub rest_from : List Extent → ℕ → ℕ → List ℕ
rest_from extents index skip = drop skip (addresses (drop index extents))

-- the addresses of the bytes from a cursor's place on
abbrev pub rest_of : Cursor → List ℕ
rest_of c = rest_from c.extents.now c.index c.skip

-- the address is below 2^42, and the memory has the frame that it lies in
pub record IsThere (m : FrameMemory) (a : ℕ) : Type 0 where
  pub numbered : a < 2 ^ 42
  pub found : memory_has_frame m (a / 4096) ≡ true

-- the first of these addresses, if there is one, lies in a frame with a number below 2^30
abbrev pub BeginsLow : List ℕ → Type 0
BeginsLow [] = Unit {0}
BeginsLow (a ∷ rest) = a < 2 ^ 42
