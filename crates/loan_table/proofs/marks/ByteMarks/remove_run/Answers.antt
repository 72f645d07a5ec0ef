use Rattle.loan_table.proofs.RunMarks.{marks_without}
use Rattle.loan_table.proofs.marks.ByteMarks.remove_run.Goals as goal

pub returns-clause-bytes : goal.returns-clause-bytes
returns-clause-bytes c =
    rw (← c.self.view_is)
    (marks_without c.self.inside.there.edges c.set.new.self.edges c.self.inside.known.edges c.args.pa c.args.len
    c.self.invariant c.set.ensures.kept c.set.ensures.members)
