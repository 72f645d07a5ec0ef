use Rattle.std.proofs.Common.{◌∙◌}
use Rattle.loan_table.proofs.Results.{either_way, is_none}
use Rattle.loan_table.proofs.Trees.{remove_absent}
use Rattle.loan_table.proofs.table.LoanTable.prepare_map.Goals as goal

pub returns-clause-loans : goal.returns-clause-loans
returns-clause-loans c =
    either_way c.put_map.result _ _ _ c.put_map.ensures.loans c.put_map.ensures.err
    (λ is. is ∙ remove_absent _ _ (is_none _ c.requires.fresh)) (λ same. same.loans)
