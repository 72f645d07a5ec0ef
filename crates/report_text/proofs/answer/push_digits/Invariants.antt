use Rattle.std.proofs.Common.{◌≡◌}
use Rattle.std.specs.List.{flat_map}
use Rattle.std.specs.Slice.Iter.{chunks_rest, chunks_size}
use Rattle.program_rules.specs.Reports.Answer.{byte_text}
use Rattle.io_edge.specs.declared.pieces.Pieces.{Pieces}
use Rattle.io_edge.specs.Pieces.{PiecesGive}
use Rattle.report_text.proofs.answer.push_digits.Given as goal

-- what ends with the rest of the text ends with all of it
abbrev pub invariant-loop-block : goal.invariant-loop-block
invariant-loop-block g l =
    (goal.iterator-loop-block g).can_next l.block-iterator
    × (goal.iterator-loop-block g).is_finite l.block-iterator
    × (chunks_size l.block-iterator ≡ 64)
    × ((ended : Pieces g.row.K.Denot)
    → PiecesGive g.K.Sink.held g.K.Sink.faults l.out (flat_map byte_text (chunks_rest l.block-iterator)) ended
    → PiecesGive g.K.Sink.held g.K.Sink.faults l.initial.out (flat_map byte_text l.bytes) ended)
