use Rattle.std.proofs.Common.{take}
use Rattle.lane_core.proofs.OpeningPages.{HoldsPages}
use Rattle.lane_core.proofs.opening.opening_memory.Given as goal

abbrev pub invariant-loop-run : goal.invariant-loop-run
invariant-loop-run l = HoldsPages (take l.run-index l.pages) l.memory.memory
