use Rattle.journal_check.proofs.FirstLine.{cut-at, cut-last}
use Rattle.std.proofs.Common.{sym, ◌∙◌}
use Rattle.journal_check.proofs.cutting.line_end.Goals as goal

pub returns-in-Some-clause-line : goal.returns-in-Some-clause-line
returns-in-Some-clause-line c =
    cut-at c.args.text.now c.in-Some.feed c.requires (sym c.place_of.ensures.first ∙ c.in-Some.is)

pub returns-in-None-clause-line : goal.returns-in-None-clause-line
returns-in-None-clause-line c =
    cut-last c.args.text.now c.requires (sym c.place_of.ensures.first ∙ c.in-None.is)
