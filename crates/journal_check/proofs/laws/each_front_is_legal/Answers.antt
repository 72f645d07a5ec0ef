use Rattle.journal_check.proofs.Verdicts.{front-rests}
use Rattle.journal_check.proofs.laws.each_front_is_legal.Goals as goal

pub returns : goal.returns
returns c = front-rests
