use Rattle.std.proofs.Common.{◌∙◌, ◌&&◌, sym, ap}
use Rattle.run_set.specs.Edges.{member}
use Rattle.loan_table.proofs.RunMarks.{known_by_marks}
use Rattle.loan_table.proofs.marks.ByteMarks.is_known.Goals as goal

pub returns-then-contains : goal.returns-then-contains
returns-then-contains c =
    rw (← c.self.view_is)
    (c.contains-then-contains.ensures ∙ ap (λ b. b && member c.self.inside.known.edges c.args.pa)
    (sym c.if-contains.true ∙ c.contains.ensures)
    ∙ known_by_marks c.self.inside.there.edges c.self.inside.known.edges c.self.invariant c.args.pa)

pub returns-else-contains : goal.returns-else-contains
returns-else-contains c =
    rw (← c.self.view_is)
    (c.if-contains.false ∙ ap (λ b. b && member c.self.inside.known.edges c.args.pa)
    (sym c.if-contains.false ∙ c.contains.ensures)
    ∙ known_by_marks c.self.inside.there.edges c.self.inside.known.edges c.self.invariant c.args.pa)
