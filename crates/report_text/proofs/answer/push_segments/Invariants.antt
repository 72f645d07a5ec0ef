use Rattle.std.proofs.Common.{drop}
use Rattle.std.specs.List.{flat_map}
use Rattle.program_rules.specs.Reports.Answer.{segment_text}
use Rattle.io_edge.specs.declared.pieces.Pieces.{Pieces}
use Rattle.io_edge.specs.Pieces.{PiecesGive}
use Rattle.report_text.proofs.answer.push_segments.Given as goal

-- what ends with the rest of the text ends with all of it
abbrev pub invariant-loop-segment : goal.invariant-loop-segment
invariant-loop-segment g l = (ended : Pieces g.row.K.Denot)
    → PiecesGive g.K.Sink.held g.K.Sink.faults l.out (flat_map segment_text (drop l.segment-index l.segments)) ended
    → PiecesGive g.K.Sink.held g.K.Sink.faults l.initial.out (flat_map segment_text l.segments) ended
