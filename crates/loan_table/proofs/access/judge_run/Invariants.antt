use Rattle.std.proofs.Common.{◌≡◌, ◌+◌, ◌-◌, ◌≤◌}
use Rattle.busdma_machine.specs.Judging.{judged}
use Rattle.busdma_machine.specs.Runs.{run_of}
use Rattle.loan_table.specs.Kinds.{cpu_refusal}
use Rattle.loan_table.specs.Table.{is_marked}
use Rattle.loan_table.specs.Counted.{IsCounted}
use Rattle.busdma_rules.specs.Lending.Loans.{Loans}
use Rattle.loan_table.proofs.access.judge_run.Given as goal

abbrev pub invariant-loop-pa : goal.invariant-loop-pa
invariant-loop-pa l =
    record {
      judged_so_far : (loans : Loans) → IsCounted l.lent loans →
          judged (cpu_refusal l.access (is_marked l.bytes.bytes) loans) l.at (run_of l.pa (l.end - l.pa))
          ≡ judged (cpu_refusal l.access (is_marked l.bytes.bytes) loans) l.place (run_of l.run.pa.0 l.run.len);
      in_place : l.at + (l.end - l.pa) ≡ l.place + l.run.len;
      to : l.pa ≤ l.end;
    }

abbrev pub decreases-loop-pa : goal.decreases-loop-pa
decreases-loop-pa l = l.end - l.pa
