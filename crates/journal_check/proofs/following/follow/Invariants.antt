use Rattle.std.proofs.Common.{length, ◌-◌, ◌≡◌, ◌≤◌}
use Rattle.world_core.specs.Ideal.{ideal_world}
use Rattle.journal_check.specs.Following.{AreFollowed}
use Rattle.journal_check.proofs.following.follow.Given as goal

abbrev pub invariant-loop-at : goal.invariant-loop-at
invariant-loop-at l = record {
  within : l.at ≤ length l.text;
  followed : AreFollowed l.scenario l.text l.entries.items l.at (ideal_world l.world);
}

abbrev pub decreases-loop-at : goal.decreases-loop-at
decreases-loop-at l = length l.text - l.at
