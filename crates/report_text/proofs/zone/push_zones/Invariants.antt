use Rattle.std.proofs.Common.{drop}
use Rattle.program_rules.specs.Reports.Text.{numbered}
use Rattle.program_rules.specs.Reports.Zone.{zone_text}
use Rattle.io_edge.specs.declared.pieces.Pieces.{Pieces}
use Rattle.io_edge.specs.Pieces.{PiecesGive}
use Rattle.report_text.proofs.zone.push_zones.Given as goal

-- what ends with the rest of the text ends with all of it
abbrev pub invariant-loop-number : goal.invariant-loop-number
invariant-loop-number g l = (ended : Pieces g.row.K.Denot)
    → PiecesGive g.K.Sink.held g.K.Sink.faults l.out (numbered zone_text l.number (drop l.number l.zones)) ended
    → PiecesGive g.K.Sink.held g.K.Sink.faults l.initial.out (numbered zone_text 0 l.zones) ended
