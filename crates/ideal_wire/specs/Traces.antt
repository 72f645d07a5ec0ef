-- Where the device reaches the bytes of a driver's loads: the bytes of bounced chunks in the bounce pages of their map,
-- all others where they are.
use Rattle.std.specs.Prelude.{ℕ, ◌+◌, ◌-◌, Bool, ◌&&◌, List, [], ◌∷◌, Option, Some, None, if◌then◌else◌, nat_le}
use Rattle.std.specs.Prelude.{nat_lt}
use Rattle.std.specs.FinMap.{get}
use Rattle.std.specs.List.{list_any}
use Rattle.busdma_machine.specs.declared.machine.chunk.Chunk.{Chunk}
use Rattle.busdma_machine.specs.Bounce.MemoryRuns.{in_run}
use Rattle.busdma_machine.specs.Machine.Wire.{Placed, Traces}
use Rattle.busdma_rules.specs.Lending.Loans.{loan_of, addresses_of}
use Rattle.busdma_rules.specs.Segments.Trace.{chunk_len, bus_extent}
use Rattle.ideal_lane.specs.State.{LaneState, LaneMap, Stage, Idle}
use Rattle.ideal_lane.specs.Syncs.{bounced_in}

-- the stage of a map, or Idle if there is no map
abbrev pub stage_in : Option LaneMap → Stage
stage_in None = Idle
stage_in (Some o) = o.stage

-- the stage of the map at a place, or Idle if there is none
abbrev pub stage_at : LaneState → ℕ → Stage
stage_at l m = stage_in (get l.maps m)

-- a chunk has the byte at a place of the load
abbrev pub has_place : ℕ → Chunk → Bool
has_place at c = nat_le c.at at && nat_lt at (c.at + chunk_len c)

-- The physical address at which the device reaches the byte at a place of a load, given the byte's own. If one of these
-- bounced chunks has the byte, it is in the chunk's page, as far from the chunk's first byte as in the load; otherwise
-- it is the byte's own.
abbrev pub bus_at : List Chunk → ℕ → ℕ → ℕ
bus_at [] at pa = pa
bus_at (c ∷ cs) at pa = if has_place at c then (bus_extent c).pa.0 + (at - c.at) else bus_at cs at pa

-- the trace of bytes at these physical addresses, of which the first is at this place of the load
abbrev pub placed_from : List Chunk → ℕ → List ℕ → List Placed
placed_from cs at [] = []
placed_from cs at (pa ∷ pas) = record { pa = pa; bus = bus_at cs at pa } ∷ placed_from cs (at + 1) pas

-- the trace of a map's load: of each byte, its physical address and the one at which the device reaches it, which is in
-- a bounce page or the byte's own
abbrev pub traces_of : LaneState → Traces
traces_of l m = placed_from (bounced_in (stage_at l m)) 0 (addresses_of (loan_of l.loans m).positions)

-- a byte is in one of these pages
abbrev pub is_in_pages : List ℕ → ℕ → Bool
is_in_pages pages a = list_any (λ p. in_run p 1 a) pages
