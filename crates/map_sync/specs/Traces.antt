-- How the trace of a load and its chunks agree on a range.
use Rattle.std.specs.Prelude.{◌≡◌, ℕ, List}
use Rattle.busdma_machine.specs.declared.machine.chunk.Chunk.{Chunk}
use Rattle.busdma_machine.specs.Machine.Wire.{Placed, Wire, copied_in, copied_out, stretch}
use Rattle.map_sync.specs.Ranges.{range_of_chunks}
use Rattle.busdma_rules.specs.Syncs.ChunkTraces.{HasChunks}

-- a sync of a range of a trace copies what a sync of that range of its chunks copies
pub record CopiesAlike (off len : ℕ) (chunks : List Chunk) (trace : List Placed) (w : Wire) : Type 0 where
  pub in_alike : copied_in (stretch off len trace) w ≡ copied_in (range_of_chunks off len chunks) w
  pub out_alike : copied_out (stretch off len trace) w ≡ copied_out (range_of_chunks off len chunks) w

-- a sync of any range of any trace copies what a sync of that range of the trace's chunks copies
abbrev pub EachRangeCopiesAlike : Type 0
EachRangeCopiesAlike =
    (off len : ℕ) (chunks : List Chunk) (trace : List Placed) → HasChunks 0 trace chunks →
    (w : Wire) → CopiesAlike off len chunks trace w
