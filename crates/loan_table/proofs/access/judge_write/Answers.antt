use Rattle.std.proofs.Common.{◌||◌, if◌then◌else◌, Some, None, sym, ap}
use Rattle.busdma_machine.specs.declared.report.ReportName.TheVariants.{DeviceWriteUnlent}
use Rattle.busdma_rules.specs.Lending.Access.{dev_write_refusal}
use Rattle.loan_table.proofs.Judgement.{judged-none}
use Rattle.loan_table.proofs.access.judge_write.Goals as goal

pub returns-then-coherent : goal.returns-then-coherent
returns-then-coherent c =
    sym (judged-none (dev_write_refusal c.args.coherent) 0 _
    (λ p. ap (λ b. if b || p.to_write then None else Some DeviceWriteUnlent) c.if-coherent.true))
