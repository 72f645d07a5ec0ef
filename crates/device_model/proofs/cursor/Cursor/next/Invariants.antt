use Rattle.std.proofs.Common.{◌≡◌, length, ◌-◌}
use Rattle.device_model.specs.AccessSteps.{rest_of}
use Rattle.device_model.proofs.cursor.Cursor.next.Given as goal

abbrev pub invariant-loop-self : goal.invariant-loop-self
invariant-loop-self l = record {
  same : rest_of l.self ≡ rest_of l.fn.self;
  segments : l.self.segments.now ≡ l.fn.self.segments.now;
}

abbrev pub decreases-loop-self : goal.decreases-loop-self
decreases-loop-self l = length l.self.segments.now - l.self.index
