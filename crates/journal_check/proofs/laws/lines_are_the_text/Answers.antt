use Rattle.journal_check.proofs.Lines.{concat-lines}
use Rattle.journal_check.proofs.laws.lines_are_the_text.Goals as goal

pub returns : goal.returns
returns c = concat-lines
