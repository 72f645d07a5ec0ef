use Rattle.std.proofs.Common.{◌≡◌}
use Rattle.busdma_machine.specs.Machine.Entry.{unmapped_of}
use Rattle.lane_state.proofs.judging.judge_parts.Given as goal

abbrev pub invariant-loop-part : goal.invariant-loop-part
invariant-loop-part l = unmapped_of l.part-iterator ≡ unmapped_of l.fn.parts
