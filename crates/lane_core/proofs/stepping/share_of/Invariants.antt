use Rattle.std.proofs.Common.{◌≡◌, drop}
use Rattle.lane_state.specs.Kept.{kept_share}
use Rattle.lane_core.proofs.stepping.share_of.Given as goal

abbrev pub invariant-loop-share : goal.invariant-loop-share
invariant-loop-share l = kept_share (drop l.share-index l.shares) l.zone.0 ≡ kept_share l.shares l.zone.0
