use Rattle.ideal_world.proofs.Reported.{world-reports}
use Rattle.ideal_world.proofs.laws.reports_change_nothing.Goals as goal

pub returns : goal.returns
returns c = λ w actor l e there is report. world-reports w actor l e there is report
