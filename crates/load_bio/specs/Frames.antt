-- Extents that lie in frames.
use Rattle.std.specs.Prelude.{ℕ, ◌/◌, Contains, List}
use Rattle.busdma_machine.specs.declared.machine.address.Extent.{Extent}

-- the extent lies in one of these frames
abbrev pub LiesInOneOf : List ℕ → Extent → Type 0
LiesInOneOf frames e = Contains frames (e.pa.0 / 4096)
