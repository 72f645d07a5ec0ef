use Rattle.ideal_world.proofs.Reached.{reached-fits, reached-low, reached-whole, reached-below}
use Rattle.ideal_world.proofs.laws.account_fits.Goals as goal

pub returns-clause-fit : goal.returns-clause-fit
returns-clause-fit c = λ s w well. reached-fits s w.account well.valid well.reached

pub returns-clause-low : goal.returns-clause-low
returns-clause-low c = λ s w well. reached-low s w.account well.valid well.reached

pub returns-clause-whole : goal.returns-clause-whole
returns-clause-whole c = λ s w well. reached-whole s w.account well.valid well.reached

pub returns-clause-below : goal.returns-clause-below
returns-clause-below c = λ s w well. reached-below s w.account well.valid well.reached
