use Rattle.std.proofs.Common.{◌&&◌, ap, sym, ◌∙◌, arith}
use Rattle.run_set.specs.Edges.{member}
use Rattle.loan_table.proofs.RunMarks.{known_by_marks}
use Rattle.loan_table.proofs.marks.ByteMarks.turn.Goals as goal

pub returns-clause-same : goal.returns-clause-same
returns-clause-same c a from to =
    let there = c.self.inside.there.edges in
    let known = c.self.inside.known.edges in
    let start = c.args.start in
    rw (← c.self.view_is) (sym (known_by_marks there known c.self.invariant a)
    ∙ ap (λ b. b && member known a) (c.turn-turn.ensures.same a from (omega arith))
    ∙ ap (λ b. member there start && b) (c.turn.ensures.same a from (omega arith))
    ∙ known_by_marks there known c.self.invariant start)
