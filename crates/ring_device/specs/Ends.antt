-- Where the segments of a load end.
use Rattle.std.specs.Prelude.{◌+◌, ◌^◌, ◌<◌, ◌≤◌}
use Rattle.busdma_machine.specs.declared.machine.address.Segment.{Segment}

-- a segment that has a byte ends at or below 2^64
abbrev pub EndsLow : Segment → Type 0
EndsLow s = 0 < s.len → s.addr.0 + s.len ≤ 2 ^ 64
