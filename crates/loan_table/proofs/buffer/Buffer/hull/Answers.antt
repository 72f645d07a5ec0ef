use Rattle.std.proofs.Common.{◌+◌}
use Rattle.std.specs.List.{All}
use Rattle.busdma_machine.specs.Runs.{addresses}
use Rattle.loan_table.specs.Rows.{AreWithin, LiesFromTo}
use Rattle.loan_table.proofs.Hulls.{all_within, each_some}
use Rattle.loan_table.proofs.buffer.Buffer.hull.Goals as goal

pub returns-then-len-gt-FEW-clause-within : goal.returns-then-len-gt-FEW-clause-within
returns-then-len-gt-FEW-clause-within c =
    let stretches = c.self.inside.stretches.items in
    rw (← c.self.view_is) (each_some (λ run. All (LiesFromTo run.pa.0 (run.pa.0 + run.len)) stretches)
    (λ run. AreWithin run (addresses stretches)) c.hull_of.result (λ run. all_within run stretches)
    (rw c.deref.ensures.value at c.hull_of.ensures.within))
