use Rattle.std.proofs.Common.{true, false, sym, ◌∙◌}
use Rattle.busdma_machine.specs.declared.report.ReportName.TheVariants.{SyncOrder}
use Rattle.loan_table.specs.Kinds.{unlent_refusal}
use Rattle.busdma_rules.specs.Lending.SyncEffects.{sync_refusal}
use Rattle.loan_table.proofs.Judgement.{judged-none, judged-same}
use Rattle.loan_table.proofs.SameRefusals.{met_by_ends}
use Rattle.loan_table.proofs.sync.judge_ends.Goals as goal

pub returns-then-contains : goal.returns-then-contains
returns-then-contains c loans map =
    c.judge_to_write.ensures
    ∙ sym (judged-same (sync_refusal loans map c.args.ops.0) (unlent_refusal SyncOrder) c.args.off _
    (λ p. met_by_ends loans map c.args.ops.0 true p (sym (c.contains.ensures tt) ∙ c.if-contains.true)
    c.requires.no_prewrite c.requires.no_preread))

pub returns-else-contains : goal.returns-else-contains
returns-else-contains c loans map =
    sym (judged-none (sync_refusal loans map c.args.ops.0) c.args.off _
    (λ p. met_by_ends loans map c.args.ops.0 false p (sym (c.contains.ensures tt) ∙ c.if-contains.false)
    c.requires.no_prewrite c.requires.no_preread))
