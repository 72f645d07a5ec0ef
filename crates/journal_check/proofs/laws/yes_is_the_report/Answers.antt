use Rattle.journal_check.proofs.Verdicts.{yes-legal, report-whole}
use Rattle.journal_check.proofs.laws.yes_is_the_report.Goals as goal

pub returns-clause-legal : goal.returns-clause-legal
returns-clause-legal c = yes-legal

pub returns-clause-report : goal.returns-clause-report
returns-clause-report c = λ s text j valid legal h. report-whole s text j valid legal h
