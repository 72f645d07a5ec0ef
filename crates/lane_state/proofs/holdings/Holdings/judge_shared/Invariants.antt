use Rattle.std.proofs.Common.{◌≡◌}
use Rattle.std.specs.List.{list_any}
use Rattle.busdma_machine.specs.Judging.{judged}
use Rattle.busdma_machine.specs.Runs.{run_of}
use Rattle.ideal_lane.specs.Places.{is_in_memory, is_memory_byte}
use Rattle.lane_state.specs.Ideal.{ideal_of}
use Rattle.lane_state.specs.Judging.{earlier, foreign_refusal}
use Rattle.lane_state.specs.Kept.{memory_of}
use Rattle.lane_state.proofs.holdings.Holdings.judge_shared.Given as goal

abbrev pub invariant-loop-kept : goal.invariant-loop-kept
invariant-loop-kept l =
    earlier l.first (judged (λ v. foreign_refusal (list_any (λ e. is_in_memory v (memory_of e.1)) l.kept-iterator))
    l.offset
    (run_of l.from l.len))
    ≡ judged (λ v. foreign_refusal (is_memory_byte (ideal_of l.self) v)) l.offset (run_of l.from l.len)
