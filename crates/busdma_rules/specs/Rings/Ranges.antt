-- The place in a load of a range of bus addresses, and the bus addresses of a range of a load.
use Rattle.std.specs.Prelude.{ℕ, ◌+◌, ◌-◌, Bool, ◌&&◌, nat_le, nat_lt, List, [], ◌∷◌, Option, Some, None, sum_by}
use Rattle.std.specs.Prelude.{if◌then◌else◌}
use Rattle.std.specs.List.{flat_map}
use Rattle.std.specs.Option.{option_map}
use Rattle.busdma_machine.specs.declared.machine.address.Segment.{Segment}
use Rattle.busdma_machine.specs.Runs.{run_of}

-- how many bytes segments have together
abbrev pub segments_byte_count : List Segment → ℕ
segments_byte_count segments = sum_by (λ s. s.len) segments

-- the bus addresses of the bytes of segments, in order
abbrev pub bus_bytes : List Segment → List ℕ
bus_bytes segments = flat_map (λ s. run_of s.addr.0 s.len) segments

-- a segment has all `len` bytes from a bus address on
abbrev pub segment_holds : ℕ → ℕ → Segment → Bool
segment_holds addr len s = nat_le s.addr.0 addr && nat_le (addr + len) (s.addr.0 + s.len)

-- the place in a load of the `len` bytes from a bus address on, by the first segment that has all of them
abbrev pub place_of : ℕ → ℕ → List Segment → Option ℕ
place_of addr len [] = None
place_of addr len (s ∷ ss) =
    if segment_holds addr len s then Some (addr - s.addr.0) else option_map (λ at. s.len + at) (place_of addr len ss)

-- the bus address of the byte `off` of a load, if its segment has all of the `len` bytes from there on
abbrev pub address_of : ℕ → ℕ → List Segment → Option ℕ
address_of off len [] = None
address_of off len (s ∷ ss) =
    if nat_lt off s.len then if nat_le (off + len) s.len then Some (s.addr.0 + off) else None
    else address_of (off - s.len) len ss
