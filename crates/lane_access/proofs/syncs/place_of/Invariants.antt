use Rattle.std.proofs.Common.{◌≡◌, ◌+◌, ◌-◌, ◌≤◌, drop, length}
use Rattle.lane_access.specs.Shares.{share_place}
use Rattle.lane_access.proofs.syncs.place_of.Given as goal

abbrev pub invariant-loop-place : goal.invariant-loop-place
invariant-loop-place l = record {
  at : l.place + share_place l.zone.0 (drop l.place l.shares) ≡ share_place l.zone.0 l.shares;
  inside : l.place ≤ length l.shares;
}

abbrev pub decreases-loop-place : goal.decreases-loop-place
decreases-loop-place l = length l.shares - l.place
