use Rattle.driver_laws.proofs.DoneTransfers.{driver-done}
use Rattle.driver_laws.proofs.Transfers.{driver-reads}
use Rattle.driver_laws.proofs.Unloaded.{unloaded-reads}
use Rattle.driver_laws.proofs.transfer_laws.drivers_read_what_devices_wrote.Goals as goal

pub returns-clause-done : goal.returns-clause-done
returns-clause-done c = λ a b c d e f place vs m flags before after items segments laid machine apart direct loads first
    pre writes last post same.
    driver-done a b c d e place vs m flags before after items segments laid machine apart direct loads first pre writes
    last post f same

pub returns-clause-read : goal.returns-clause-read
returns-clause-read c = driver-reads

pub returns-clause-unloaded : goal.returns-clause-unloaded
returns-clause-unloaded c = λ a b c d e f g k place vs bytes m flags before after items segments laid machine apart
    loads first writes last post ends back reads.
    unloaded-reads a b c d e place vs m flags before after items segments laid machine apart loads first writes last
    post f g k bytes ends back reads
