use Rattle.ideal_world.proofs.Opens.{opens-well}
use Rattle.journal_check.proofs.Verdicts.{one-verdict}
use Rattle.journal_check.proofs.laws.one_verdict.Goals as goal

pub returns : goal.returns
returns c = λ s text u v valid h k. one-verdict s valid (opens-well s valid) text u v h k
