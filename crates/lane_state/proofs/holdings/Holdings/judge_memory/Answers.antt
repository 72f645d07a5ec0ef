use Rattle.std.proofs.Common.{sym, ap, ◌∙◌}
use Rattle.lane_state.specs.Ideal.{ideal_of}
use Rattle.lane_state.specs.Judging.{foreign_judged}
use Rattle.lane_state.specs.Loading.{bio_of}
use Rattle.lane_state.proofs.LoadJudged.{frames-foreign, span-foreign}
use Rattle.lane_state.proofs.holdings.Holdings.judge_memory.Goals as goal

pub returns-in-Span : goal.returns-in-Span
returns-in-Span c =
    let l = ideal_of c.args.self.now in
    c.judge_span.ensures ∙ span-foreign l c.args.map (record { va = record { 0 = c.in-Span.va }; len = c.in-Span.len })
    ∙ ap (λ b. foreign_judged l c.args.map (bio_of b)) (sym c.in-Span.is)

pub returns-in-Spans : goal.returns-in-Spans
returns-in-Spans c =
    let l = ideal_of c.args.self.now in
    c.judge_spans.ensures ∙ ap (λ b. foreign_judged l c.args.map (bio_of b)) (sym c.in-Spans.is)

pub returns-in-Frames : goal.returns-in-Frames
returns-in-Frames c =
    let l = ideal_of c.args.self.now in
    c.judge_frames.ensures ∙ frames-foreign l c.args.map c.in-Frames.frames.now c.in-Frames.off c.in-Frames.len
    ∙ ap (λ b. foreign_judged l c.args.map (bio_of b)) (sym c.in-Frames.is)
