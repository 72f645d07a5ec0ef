use Rattle.bus_dma.proofs.CallerLaws.{unload-is}
use Rattle.bus_dma.proofs.laws.unloads_are_steps.Goals as goal

pub returns : goal.returns
returns c = unload-is
