use Rattle.std.proofs.Common.{◌≡◌, drop, max}
use Rattle.busdma_base.specs.Scenarios.Opening.{maxmem_of}
use Rattle.opening_frames.proofs.frames.memory_end.Given as goal

abbrev pub invariant-loop-run : goal.invariant-loop-run
invariant-loop-run l = max l.end (maxmem_of (drop l.run-index l.runs)) ≡ maxmem_of l.fn.runs
