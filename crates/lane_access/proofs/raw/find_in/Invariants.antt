use Rattle.std.proofs.Common.{◌≡◌, ℕ, ◌+◌, ◌<◌, ◌≤◌, drop}
use Rattle.busdma_rules.specs.Segments.Obeying.{segments_bytes}
use Rattle.ideal_lane.specs.Accesses.{place_in}
use Rattle.lane_access.proofs.raw.find_in.Given as goal

abbrev pub invariant-loop-segment : goal.invariant-loop-segment
invariant-loop-segment l = record {
  some : 0 < l.len;
  most : l.len ≤ l.most;
  left : (i : ℕ) → i < l.len → place_in 0 l.segments (l.addr + i)
      ≡ place_in l.before (drop l.segment-index l.segments) (l.addr + i);
  bytes : l.before + segments_bytes (drop l.segment-index l.segments) ≡ segments_bytes l.segments;
}
