use Rattle.std.proofs.Common.{refl}
use Rattle.io_edge.proofs.Giving.{gives_then, gives_nothing, gives_as}
use Rattle.program_rules.specs.Reports.Answer.{segment_text}
use Rattle.report_text.proofs.Rest.{flat_next, flat_end}
use Rattle.report_text.proofs.answer.push_segments.Goals as goal

pub loop-segment-preserved : goal.loop-segment-preserved
loop-segment-preserved g c = λ ended rest.
    c.loop-segment.invariant ended
    (gives_as (flat_next segment_text c.args.segments.now c.loop-segment.segment-index _ _ c.loop-segment-test.true
    refl)
    (gives_then c.push_segment.ensures rest))

pub returns : goal.returns
returns g c =
    c.loop-segment.invariant c.loop-segment.out
    (gives_as (flat_end segment_text c.args.segments.now c.loop-segment.segment-index c.loop-segment-test.false)
    (gives_nothing c.loop-segment.out))
