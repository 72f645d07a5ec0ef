use Rattle.driver_laws.proofs.DoneTransfers.{device-done}
use Rattle.driver_laws.proofs.Transfers.{device-reads}
use Rattle.driver_laws.proofs.transfer_laws.devices_read_what_drivers_wrote.Goals as goal

pub returns-clause-done : goal.returns-clause-done
returns-clause-done c = λ a b c d e place vs m flags ops items segments laid machine apart write loads syncs pre same.
    device-done a b c d place vs m flags ops items segments laid machine apart write loads syncs pre e same

pub returns-clause-read : goal.returns-clause-read
returns-clause-read c = device-reads
