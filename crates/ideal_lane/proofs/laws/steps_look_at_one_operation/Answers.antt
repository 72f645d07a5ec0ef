use Rattle.ideal_lane.proofs.ScriptLaws.{turn-same}
use Rattle.ideal_lane.proofs.ScriptedRuns.{next-is}
use Rattle.ideal_lane.proofs.laws.steps_look_at_one_operation.Goals as goal

pub returns-clause-turn : goal.returns-clause-turn
returns-clause-turn c = λ l s script at. turn-same script l s at

pub returns-clause-next : goal.returns-clause-next
returns-clause-next c = next-is
