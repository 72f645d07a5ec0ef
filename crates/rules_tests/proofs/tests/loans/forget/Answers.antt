use Rattle.std.proofs.Common.{false}
use Rattle.busdma_rules.specs.Lending.SyncEffects.{lost_by_forgetting}
use Rattle.rules_tests.proofs.AllMemory.{all-marked}
use Rattle.rules_tests.proofs.tests.loans.forget.Goals as goal

pub returns : goal.returns
returns c =
    all-marked 4398046511104 c.args.table.now c.forget.new.self
    (lost_by_forgetting c.args.table.now.loans c.lent.result.made_at) false c.forget.ensures.bytes c.requires.all
