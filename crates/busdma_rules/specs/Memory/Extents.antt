-- The extents of bytes that lie in frames.
use Rattle.std.specs.Prelude.{ℕ, zero, suc, ◌+◌, ◌%◌, ◌==◌, if◌then◌else◌, List, [], ◌∷◌, Option, Some, None}
use Rattle.busdma_machine.specs.declared.machine.address.Extent.{Extent}
use Rattle.busdma_rules.specs.Memory.Translation.{Translation}

-- extents with one more byte at their front: it joins the first extent, unless that extent begins a frame
abbrev pub with_byte : ℕ → List Extent → List Extent
with_byte pa [] = record { pa = record { 0 = pa }; len = 1 } ∷ []
with_byte pa (e ∷ es) =
    if e.pa.0 % 4096 == 0 then record { pa = record { 0 = pa }; len = 1 } ∷ e ∷ es
    else record { pa = record { 0 = pa }; len = 1 + e.len } ∷ es

-- the extents of the bytes at these physical addresses: one begins at the first byte, and one at each later byte that
-- begins a frame
abbrev pub extents_of : List ℕ → List Extent
extents_of [] = []
extents_of (pa ∷ pas) = with_byte pa (extents_of pas)

-- a physical address and the ones after it, or nothing if there is no address
abbrev pub then_reached : Option ℕ → List ℕ → List ℕ
then_reached None others = []
then_reached (Some pa) others = pa ∷ others

-- the physical addresses of the n bytes from a virtual address on, up to the first that cannot be reached
abbrev pub reached_addresses : Translation → ℕ → ℕ → List ℕ
reached_addresses t va zero = []
reached_addresses t va (suc n) = then_reached (t va) (reached_addresses t (va + 1) n)
