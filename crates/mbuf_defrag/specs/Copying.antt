-- The copy of bytes from extents to extents.
use Rattle.std.specs.Prelude.{◌≡◌, ℕ, ◌==◌, false, List, map}
use Rattle.std.specs.List.{AllByRecursion, list_any}
use Rattle.busdma_machine.specs.declared.machine.address.Extent.{Extent}
use Rattle.busdma_machine.specs.Machine.Wire.{Wire, put}
use Rattle.busdma_machine.specs.Runs.{addresses}

-- an address is none of these others
abbrev pub IsAway : List ℕ → ℕ → Type 0
IsAway others a = list_any (λ b. a == b) others ≡ false

-- no byte of the first extents is one of the second
abbrev pub ShareNone : List Extent → List Extent → Type 0
ShareNone from to = AllByRecursion (IsAway (addresses to)) (addresses from)

-- the wire after the bytes of the second extents become those of the first, in order
abbrev pub extents_copied : List Extent → List Extent → Wire → Wire
extents_copied from to w = put (addresses to) (map w (addresses from)) w
