use Rattle.ideal_laws.proofs.Refused.{busy-leaves, in_progress-leaves, invalid-leaves, no_memory-leaves, too_big-leaves}
use Rattle.ideal_laws.proofs.Refused.{in_progress-refused, unmade-leaves}
use Rattle.ideal_laws.proofs.refusal_laws.refusals_leave_the_rest.Goals as goal

pub returns-clause-busy : goal.returns-clause-busy
returns-clause-busy c = busy-leaves

pub returns-clause-invalid : goal.returns-clause-invalid
returns-clause-invalid c = invalid-leaves

pub returns-clause-no_memory : goal.returns-clause-no_memory
returns-clause-no_memory c = no_memory-leaves

pub returns-clause-too_big : goal.returns-clause-too_big
returns-clause-too_big c = λ s w actor l e well there is r. too_big-leaves w actor l e there is s well r

pub returns-clause-in_progress : goal.returns-clause-in_progress
returns-clause-in_progress c = λ w actor l e have need there is r. in_progress-leaves w actor l e there is have need r

pub returns-clause-unmade : goal.returns-clause-unmade
returns-clause-unmade c = λ w actor l e g there is r made. unmade-leaves w actor l e there is g r made

pub returns-clause-waits : goal.returns-clause-waits
returns-clause-waits c = in_progress-refused
