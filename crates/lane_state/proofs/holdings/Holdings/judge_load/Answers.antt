use Rattle.std.proofs.Common.{ap, ◌∙◌}
use Rattle.busdma_machine.specs.Machine.Entry.{unmapped_of}
use Rattle.lane_state.specs.Ideal.{ideal_of}
use Rattle.lane_state.specs.Judging.{earlier, foreign_judged, unmapped_judged}
use Rattle.lane_state.specs.Loading.{bio_of}
use Rattle.lane_state.proofs.LoadJudged.{load-judged}
use Rattle.lane_state.proofs.holdings.Holdings.judge_load.Goals as goal

pub returns : goal.returns
returns c =
    let l = ideal_of c.args.self.now in
    let b = bio_of c.args.bytes in
    c.earlier.ensures
    ∙ ap (earlier c.judge_parts-unreached.result) c.judge_memory-foreign.ensures
    ∙ ap (λ j. earlier j (foreign_judged l c.args.map b)) (c.judge_parts-unreached.ensures
    ∙ ap (λ ps. unmapped_judged (unmapped_of ps)) c.parts.ensures.parts)
    ∙ load-judged l c.args.map b
