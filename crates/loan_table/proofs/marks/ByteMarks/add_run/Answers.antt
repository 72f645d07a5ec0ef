use Rattle.loan_table.proofs.RunMarks.{marks_set}
use Rattle.loan_table.proofs.marks.ByteMarks.add_run.Goals as goal

pub returns-clause-bytes : goal.returns-clause-bytes
returns-clause-bytes c =
    rw (← c.self.view_is)
    (marks_set c.self.inside.there.edges c.set.new.self.edges c.self.inside.known.edges c.set-2.new.self.edges
    c.args.pa c.args.len c.args.known c.self.invariant c.set.ensures.kept
    c.set.ensures.members c.set-2.ensures.members)
