use Rattle.std.proofs.Common.{subst}
use Rattle.busdma_machine.specs.declared.name.MapId.{MapId}
use Rattle.busdma_rules.specs.Lending.Loans.{addresses_of}
use Rattle.loan_table.specs.Table.{AreIn, buffer_of}
use Rattle.loan_table.proofs.MarkLaws.{AreIn-range}
use Rattle.lane_access.proofs.accesses.past_end.Goals as goal

pub returns-then-len-end-clause-inside : goal.returns-then-len-end-clause-inside
returns-then-len-end-clause-inside c =
    let loans = c.args.holdings.now.loans in
    AreIn-range loans.bytes c.args.off c.args.len (buffer_of loans c.args.map)
    (subst (λ (m : MapId). AreIn loans.bytes (addresses_of (buffer_of loans m.made_at))) c.map_id.ensures
    c.len_of-end.ensures.there)
