-- Whether the bytes of a load may be loaded, cause by cause.
use Rattle.std.specs.Prelude.{ℕ, ◌+◌, ◌==◌, Bool, ◌&&◌, not, List, Option, Some, None, if◌then◌else◌, nat_le, nat_lt}
use Rattle.std.specs.FinMap.{get}
use Rattle.std.specs.List.{enumerate_from}
use Rattle.busdma_machine.specs.declared.report.Judged.{Judged}
use Rattle.busdma_machine.specs.declared.report.Judged.TheVariants.{Fine, Refused}
use Rattle.busdma_machine.specs.declared.report.ReportName.{ReportName}
use Rattle.busdma_machine.specs.declared.report.ReportName.TheVariants.{ForeignMemory, Unmapped}
use Rattle.busdma_machine.specs.declared.machine.bio.Bio.{Bio}
use Rattle.busdma_machine.specs.Judging.{judged}
use Rattle.busdma_machine.specs.Machine.Spans.{bio_spans, span_addresses}
use Rattle.ideal_lane.specs.Loads.{is_foreign_in, is_foreign_to}
use Rattle.ideal_lane.specs.Places.{begin_of}
use Rattle.ideal_lane.specs.State.{LaneState, LaneMemory}

-- the earlier of two refusals, and the first of them if both are at one byte
abbrev pub earlier : Judged → Judged → Judged
earlier Fine j = j
earlier (Refused r) Fine = Refused r
earlier (Refused r) (Refused s) = if nat_le r.at s.at then Refused r else Refused s

-- a byte that is foreign to a load is refused as `ForeignMemory`
abbrev pub foreign_refusal : Bool → Option ReportName
foreign_refusal foreign = if foreign then Some ForeignMemory else None

-- the refusal of a load for a foreign byte at this offset
abbrev pub foreign_at : ℕ → Judged
foreign_at at = Refused (record { name = ForeignMemory; at = at })

-- the refusal at the first byte of a bio that is foreign to a load of this map
abbrev pub foreign_judged : LaneState → ℕ → Bio → Judged
foreign_judged l m b =
    judged (λ x. foreign_refusal (is_foreign_in b (get l.mems m) l x.0 x.1)) 0
    (enumerate_from 0 (span_addresses (bio_spans b)))

-- the refusal at the first of these virtual bytes that is foreign to a load of this map, with the first of them at this
-- offset of the load
abbrev pub foreign_bytes : LaneState → ℕ → ℕ → List ℕ → Judged
foreign_bytes l m offset vas =
    judged (λ x. foreign_refusal (is_foreign_to (get l.mems m) l x.0 x.1)) offset (enumerate_from offset vas)

-- the refusal at the first of these virtual bytes that is not the memory's byte at its place in the load
abbrev pub own_judged : LaneMemory → ℕ → List ℕ → Judged
own_judged x offset vas =
    judged (λ b. foreign_refusal (not (b.1 == begin_of x + b.0 && nat_lt b.0 x.len))) offset
    (enumerate_from offset vas)

-- the refusal of a load whose stream ends at a byte that cannot be reached
abbrev pub unmapped_judged : Option ℕ → Judged
unmapped_judged None = Fine
unmapped_judged (Some at) = Refused (record { name = Unmapped; at = at })
