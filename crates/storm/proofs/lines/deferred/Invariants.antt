use Rattle.std.proofs.Common.{◌≡◌, ◌*◌, ◌^◌, ◌≤◌, take}
use Rattle.program_rules.specs.Storms.Summary.{deferred}
use Rattle.storm.proofs.lines.deferred.Given as goal

abbrev pub invariant-loop-zone : goal.invariant-loop-zone
invariant-loop-zone l = record {
  total : l.deferred ≡ deferred (take l.zone-index l.zones);
  below : l.deferred ≤ 2 ^ 64 * l.zone-index;
}
