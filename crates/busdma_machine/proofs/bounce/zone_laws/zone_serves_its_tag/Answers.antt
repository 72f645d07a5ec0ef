use Rattle.busdma_machine.proofs.Accounts.KeptZones.{serves-attached, serves-created}
use Rattle.busdma_machine.proofs.bounce.zone_laws.zone_serves_its_tag.Goals as goal

pub returns-clause-tag : goal.returns-clause-tag
returns-clause-tag c = serves-attached

pub returns-clause-map : goal.returns-clause-map
returns-clause-map c = serves-created
