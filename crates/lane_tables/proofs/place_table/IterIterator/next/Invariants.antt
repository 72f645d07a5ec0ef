use Rattle.std.proofs.Common.{◌≡◌, ◌+◌, ◌<◌, ◌^◌, length}
use Rattle.slab.specs.Slab.{entries_from}
use Rattle.lane_tables.specs.Slots.{slots}
use Rattle.lane_tables.proofs.place_table.IterIterator.next.Given as goal

-- only places that hold nothing were passed over
abbrev pub invariant-loop-key : goal.invariant-loop-key
invariant-loop-key g l = record {
  few : l.self-inside.place + length l.self-inside.keys.now < 2 ^ 32;
  rest : entries_from l.self-inside.place (slots l.self-inside.keys.now l.self-inside.values.now) ≡ l.fn.self;
}

abbrev pub decreases-loop-key : goal.decreases-loop-key
decreases-loop-key g l = length l.self-inside.keys.now
