use Rattle.bus_dma.proofs.CallerLaws.{load-step}
use Rattle.bus_dma.proofs.laws.loads_are_steps.Goals as goal

pub returns : goal.returns
returns c = load-step
