-- The clusters that take the bytes of a chain. This project's own, after the drivers that gather a chain of too many
-- segments into clusters and load it again.
use Rattle.std.specs.Prelude.{ℕ, ◌-◌, ◌*◌, ◌==◌, min, nat_lt, List, [], ◌∷◌, length, Option, Some, None, if◌then◌else◌}
use Rattle.busdma_machine.specs.declared.machine.address.Span.{Span}
use Rattle.busdma_machine.specs.declared.machine.address.Va.{Va}
use Rattle.busdma_machine.specs.Machine.Spans.{span_bytes}

-- the vector of the first n bytes of these clusters, which have 4096 bytes each
abbrev pub front_of : ℕ → List Va → List Span
front_of n [] = []
front_of n (c ∷ cs) = if n == 0 then [] else record { va = c; len = min n 4096 } ∷ front_of (n - 4096) cs

-- as many bytes of these clusters as the chain has, or None if they are too few
abbrev pub plan : List Span → List Va → Option (List Span)
plan chain clusters =
    if nat_lt (4096 * length clusters) (span_bytes chain) then None else Some (front_of (span_bytes chain) clusters)
