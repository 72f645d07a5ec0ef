use Rattle.ideal_world.proofs.Keeping.{step-keeps, step-allowed, step-named}
use Rattle.ideal_world.proofs.laws.steps_keep_it.Goals as goal

pub returns-clause-kept : goal.returns-clause-kept
returns-clause-kept c = λ s w actor well. step-keeps s w well actor

pub returns-clause-allowed : goal.returns-clause-allowed
returns-clause-allowed c = λ s w i l side well there. step-allowed s w well i l side there

pub returns-clause-named : goal.returns-clause-named
returns-clause-named c = λ s w actor e well is. step-named s w well actor e is
