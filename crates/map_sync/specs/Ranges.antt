-- Which positions of a load a range has, in terms of the load's chunks.
use Rattle.std.specs.Prelude.{ℕ, ◌+◌, ◌-◌, List}
use Rattle.std.specs.List.{flat_map}
use Rattle.busdma_machine.specs.declared.machine.chunk.Chunk.{Chunk}
use Rattle.busdma_machine.specs.Machine.Wire.{Placed, stretch}
use Rattle.busdma_rules.specs.Syncs.Positions.{positions_of}

-- the positions of a chunk that are at the offsets of the load from off to off + len - 1
abbrev pub chunk_range : ℕ → ℕ → Chunk → List Placed
chunk_range off len c = stretch (off - c.at) (off + len - c.at - (off - c.at)) (positions_of c)

-- the positions of several chunks that are at the offsets of the load from off to off + len - 1, in order
abbrev pub range_of_chunks : ℕ → ℕ → List Chunk → List Placed
range_of_chunks off len cs = flat_map (chunk_range off len) cs
