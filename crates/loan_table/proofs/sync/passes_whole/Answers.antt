use Rattle.busdma_rules.specs.Lending.SyncEffects.{sync_refusal}
use Rattle.loan_table.proofs.Hulls.{met_nowhere}
use Rattle.loan_table.proofs.sync.passes_whole.Goals as goal

pub returns : goal.returns
returns c is lender of =
    met_nowhere (sync_refusal lender.loans lender.map c.args.ops.0) c.in-Some.hull c.args.row.now.positions
    c.in-Some.ensures.within (c.passes.ensures.passes is lender of)
