use Rattle.std.proofs.Common.{◌≡◌, take}
use Rattle.opening_frames.specs.Frames.{unowned}
use Rattle.opening_frames.proofs.frames.unowned_frames.Given as goal

abbrev pub invariant-loop-run : goal.invariant-loop-run
invariant-loop-run l = l.frames.items ≡ unowned l.fn.scenario.drivers (take l.run-index l.fn.scenario.frames)
