-- The positions of a chunk's bytes.
use Rattle.std.specs.Prelude.{ℕ, List, [], ◌∷◌}
use Rattle.busdma_machine.specs.declared.machine.chunk.Chunk.{Chunk}
use Rattle.busdma_machine.specs.Machine.Wire.{Placed}
use Rattle.busdma_machine.specs.Runs.{addresses}
use Rattle.busdma_rules.specs.Segments.Trace.{bus_addresses, chunk_extents}

-- the positions of the bytes at these physical addresses, with a bus address for each
abbrev pub placed_at : List ℕ → List ℕ → List Placed
placed_at [] buses = []
placed_at (pa ∷ pas) [] = []
placed_at (pa ∷ pas) (bus ∷ buses) = record { pa = pa; bus = bus } ∷ placed_at pas buses

-- the positions of a chunk's bytes, in order, with the bus addresses at which the device reaches them
abbrev pub positions_of : Chunk → List Placed
positions_of c = placed_at (addresses (chunk_extents c)) (bus_addresses c)
