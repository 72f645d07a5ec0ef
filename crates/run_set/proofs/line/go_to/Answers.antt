use Rattle.run_set.proofs.Lines.{back}
use Rattle.run_set.proofs.line.go_to.Goals as goal

pub returns-then-at-place-clause-items : goal.returns-then-at-place-clause-items
returns-then-at-place-clause-items c =
    back c.args.before.now.items c.args.behind.now.items c.pour.new.from.items c.pour.new.to.items
    c.pour.ensures.items
