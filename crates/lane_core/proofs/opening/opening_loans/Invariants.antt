use Rattle.std.proofs.Common.{◌≡◌, take}
use Rattle.std.specs.FinMap.{empty}
use Rattle.lane_state.proofs.OwnRuns.{AreKnown}
use Rattle.lane_core.proofs.opening.opening_loans.Given as goal

abbrev pub invariant-loop-run : goal.invariant-loop-run
invariant-loop-run l =
    record {
      loans : l.loans.loans ≡ empty;
      prepared : l.loans.prepared ≡ empty;
      bytes : AreKnown (take l.run-index l.pages) l.loans.bytes;
    }
