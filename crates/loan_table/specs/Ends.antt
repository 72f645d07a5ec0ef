-- Extents that end within numbers of 64 bits.
use Rattle.std.specs.Prelude.{◌+◌, ◌<◌, ◌^◌}
use Rattle.busdma_machine.specs.declared.machine.address.Extent.{Extent}

-- an extent that has a byte ends below 2^64
abbrev pub Ends : Extent → Type 0
Ends e = 0 < e.len → e.pa.0 + e.len < 2 ^ 64
