use Rattle.ideal_world.proofs.AnsweredLaws.{answers-load, journals-answer}
use Rattle.ideal_world.proofs.laws.journals_answer_loads.Goals as goal

pub returns-clause-step : goal.returns-clause-step
returns-clause-step c = answers-load

pub returns-clause-journal : goal.returns-clause-journal
returns-clause-journal c = journals-answer
