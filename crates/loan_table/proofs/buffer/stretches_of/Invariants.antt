use Rattle.std.proofs.Common.{◌≡◌, ◌++◌, drop}
use Rattle.std.specs.List.{All}
use Rattle.busdma_machine.specs.Runs.{addresses, run_of}
use Rattle.loan_table.specs.Ends.{Ends}
use Rattle.loan_table.proofs.buffer.stretches_of.Given as goal

abbrev pub invariant-loop-extent : goal.invariant-loop-extent
invariant-loop-extent l = record {
  bytes : addresses l.stretches.items ++ (run_of l.run.pa.0 l.run.len ++ addresses (drop l.extent-index l.rest))
      ≡ addresses l.extents;
  ends : All Ends l.stretches.items;
  here : Ends l.run;
  later : All Ends l.rest;
}
