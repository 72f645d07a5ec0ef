use Rattle.ideal_wire.proofs.Apart.NewFrames.{given-new}
use Rattle.ideal_wire.proofs.laws.given_runs_are_new.Goals as goal

pub returns : goal.returns
returns c = λ l a lane call agrees frames low laid. given-new l a agrees frames low laid lane call
