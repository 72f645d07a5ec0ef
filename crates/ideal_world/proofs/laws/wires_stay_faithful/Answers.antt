use Rattle.ideal_world.proofs.WireLaws.{wires-stay}
use Rattle.ideal_world.proofs.laws.wires_stay_faithful.Goals as goal

pub returns : goal.returns
returns c = λ s w actor before after well faithful follow. wires-stay s w well actor before after faithful follow
