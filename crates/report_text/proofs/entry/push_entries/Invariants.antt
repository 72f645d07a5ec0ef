use Rattle.std.proofs.Common.{drop}
use Rattle.program_rules.specs.Reports.Text.{numbered}
use Rattle.program_rules.specs.Reports.Report.{entry_line}
use Rattle.io_edge.specs.declared.pieces.Pieces.{Pieces}
use Rattle.io_edge.specs.Pieces.{PiecesGive}
use Rattle.report_text.proofs.entry.push_entries.Given as goal

-- what ends with the rest of the text ends with all of it
abbrev pub invariant-loop-number : goal.invariant-loop-number
invariant-loop-number g l = (ended : Pieces g.row.K.Denot)
    → PiecesGive g.K.Sink.held g.K.Sink.faults l.out
    (numbered (entry_line l.scenario) l.number (drop l.number l.entries)) ended
    → PiecesGive g.K.Sink.held g.K.Sink.faults l.initial.out (numbered (entry_line l.scenario) 0 l.entries) ended
