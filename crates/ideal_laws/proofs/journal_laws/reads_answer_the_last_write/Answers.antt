use Rattle.ideal_laws.proofs.Blind.{same-did}
use Rattle.ideal_laws.proofs.LastWritten.{answers-last, reads-last}
use Rattle.ideal_laws.proofs.journal_laws.reads_answer_the_last_write.Goals as goal

pub returns-clause-reads : goal.returns-clause-reads
returns-clause-reads c = reads-last

pub returns-clause-journal : goal.returns-clause-journal
returns-clause-journal c = answers-last

pub returns-clause-blind : goal.returns-clause-blind
returns-clause-blind c = λ d a l after memory other w. same-did a l after memory other w d
