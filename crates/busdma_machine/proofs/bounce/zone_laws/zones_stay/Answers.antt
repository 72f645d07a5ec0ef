use Rattle.busdma_machine.proofs.Accounts.KeptZones.{keeps-history}
use Rattle.busdma_machine.proofs.bounce.zone_laws.zones_stay.Goals as goal

pub returns : goal.returns
returns c = keeps-history
