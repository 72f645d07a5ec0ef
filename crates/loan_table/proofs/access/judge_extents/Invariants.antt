use Rattle.std.proofs.Common.{◌≡◌, ◌+◌, drop}
use Rattle.busdma_machine.specs.Judging.{judged}
use Rattle.busdma_machine.specs.Runs.{addresses, byte_count}
use Rattle.loan_table.specs.Kinds.{cpu_refusal}
use Rattle.loan_table.specs.Table.{is_marked}
use Rattle.loan_table.specs.Counted.{AreUnlent, IsCounted}
use Rattle.busdma_rules.specs.Lending.Loans.{Loans}
use Rattle.loan_table.proofs.access.judge_extents.Given as goal

abbrev pub invariant-loop-extent : goal.invariant-loop-extent
invariant-loop-extent l =
    record {
      judged_so_far : (loans : Loans) → IsCounted l.lent loans →
          judged (cpu_refusal l.access (is_marked l.bytes.bytes) loans) l.at
          (addresses (drop l.extent-index l.extents))
          ≡ judged (cpu_refusal l.access (is_marked l.bytes.bytes) loans) 0 (addresses l.extents);
      unlent : AreUnlent l.lent l.looks.unlent.from l.looks.unlent.to;
      in_place : l.at + byte_count (drop l.extent-index l.extents) ≡ byte_count l.extents;
    }
