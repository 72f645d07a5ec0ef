use Rattle.lane_state.specs.OpeningMemory.{HasPageRun}
use Rattle.lane_core.proofs.OpeningPages.{first_of}
use Rattle.lane_core.proofs.opening.add_run.Given as goal

abbrev pub invariant-loop-i : goal.invariant-loop-i
invariant-loop-i l = HasPageRun (first_of l.run l.i) l.initial.memory.memory l.memory.memory
