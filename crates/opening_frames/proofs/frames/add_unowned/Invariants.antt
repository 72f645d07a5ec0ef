use Rattle.std.proofs.Common.{◌≡◌, ◌++◌, not}
use Rattle.std.specs.List.{filter}
use Rattle.busdma_base.specs.Scenarios.Opening.{is_owned}
use Rattle.busdma_machine.specs.Runs.{run_of}
use Rattle.opening_frames.proofs.frames.add_unowned.Given as goal

abbrev pub invariant-loop-i : goal.invariant-loop-i
invariant-loop-i l =
    l.frames.items ≡ l.fn.frames.items ++ filter (λ f. not (is_owned l.fn.drivers f)) (run_of l.fn.run.first l.i)
