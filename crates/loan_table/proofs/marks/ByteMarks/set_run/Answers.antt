use Rattle.loan_table.proofs.RunMarks.{marks_set, run_stays}
use Rattle.loan_table.proofs.marks.ByteMarks.set_run.Goals as goal

pub returns-clause-bytes : goal.returns-clause-bytes
returns-clause-bytes c =
    rw (← c.self.view_is)
    (marks_set c.self.inside.there.edges c.self.inside.there.edges c.self.inside.known.edges c.set.new.self.edges
    c.args.pa c.args.len c.args.known c.self.invariant c.self.invariant
    (run_stays c.self.inside.there.edges c.self.inside.known.edges c.self.invariant c.args.pa c.args.len
    (rw (← c.self.view_is) at c.requires.there)) c.set.ensures.members)
