use Rattle.lane_turns.proofs.MadeTurns.{made-ready, wanting-ready}
use Rattle.lane_turns.proofs.turns.turns_leave_ready.Goals as goal

pub returns-clause-made : goal.returns-clause-made
returns-clause-made c = made-ready

pub returns-clause-wanting : goal.returns-clause-wanting
returns-clause-wanting c = λ h k d e ready same room undone. wanting-ready h k d e ready same room undone
