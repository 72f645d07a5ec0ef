use Rattle.busdma_machine.proofs.Accounts.LowPages.{pages-low}
use Rattle.busdma_machine.proofs.bounce.zone_laws.pages_lie_low.Goals as goal

pub returns : goal.returns
returns c = pages-low
