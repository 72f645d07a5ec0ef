use Rattle.busdma_machine.proofs.Accounts.ShareLaws.{names-history}
use Rattle.busdma_machine.proofs.Accounts.Waiting.{stays-waiting}
use Rattle.busdma_machine.proofs.bounce.zone_laws.waiting_map_stays.Goals as goal

pub returns-clause-until_called : goal.returns-clause-until_called
returns-clause-until_called c = stays-waiting

pub returns-clause-others : goal.returns-clause-others
returns-clause-others c = λ m z need a es sound others. (names-history m a es sound others).waits z need
