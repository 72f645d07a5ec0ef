use Rattle.driver_laws.proofs.DoneTransfers.{device-written}
use Rattle.driver_laws.proofs.transfer_laws.devices_write_what_is_loaded.Goals as goal

pub returns : goal.returns
returns c = λ a b c d place vs m flags ops items segments laid machine loads syncs pre same.
    device-written a b c place vs m flags ops items segments laid machine loads syncs pre d same
