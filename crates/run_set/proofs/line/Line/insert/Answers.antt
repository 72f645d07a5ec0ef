use Rattle.run_set.proofs.Lines.{put_there}
use Rattle.run_set.proofs.line.Line.insert.Goals as goal

pub returns-clause-items : goal.returns-clause-items
returns-clause-items c =
    rw (← c.self.view_is, c.push_reserved.ensures.items) (put_there c.args.at c.args.n
    c.go_to.new.before.items c.go_to.new.behind.items _ c.go_to.ensures.items
    c.go_to.ensures.place)
