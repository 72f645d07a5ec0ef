use Rattle.ideal_world.proofs.Opens.{opens-well}
use Rattle.journal_check.proofs.Verdicts.{no-breaks}
use Rattle.journal_check.proofs.laws.no_is_where_it_breaks.Goals as goal

pub returns : goal.returns
returns c = λ s text number valid h. no-breaks s valid (opens-well s valid) text number h
