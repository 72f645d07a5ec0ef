use Rattle.std.proofs.Common.{refl, ◌++◌}
use Rattle.ideal_lane.specs.Scripts.{with_script}
use Rattle.ideal_lane.proofs.ScriptedRuns.{runs-longer, runs-shorter}
use Rattle.ideal_lane.proofs.laws.runs_go_on_behind_more.Goals as goal

pub returns-clause-longer : goal.returns-clause-longer
returns-clause-longer c = λ l more steps. runs-longer l.script more l steps refl

pub returns-clause-shorter : goal.returns-clause-shorter
returns-clause-shorter c =
    λ l more steps. runs-shorter l.script more (with_script (l.script ++ more) l) steps refl
