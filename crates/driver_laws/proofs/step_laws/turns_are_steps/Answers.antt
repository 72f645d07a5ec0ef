use Rattle.driver_laws.proofs.Stepping.{call-steps, callback-steps, item-steps, operation-steps}
use Rattle.driver_laws.proofs.step_laws.turns_are_steps.Goals as goal

pub returns-clause-operation : goal.returns-clause-operation
returns-clause-operation c = operation-steps

pub returns-clause-item : goal.returns-clause-item
returns-clause-item c = item-steps

pub returns-clause-call : goal.returns-clause-call
returns-clause-call c = call-steps

pub returns-clause-callback : goal.returns-clause-callback
returns-clause-callback c = callback-steps
