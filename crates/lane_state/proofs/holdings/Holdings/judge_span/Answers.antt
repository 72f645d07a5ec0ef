use Rattle.std.proofs.Common.{sym, ◌∙◌}
use Rattle.busdma_machine.specs.Runs.{run_of}
use Rattle.lane_state.specs.Ideal.{ideal_of}
use Rattle.lane_state.specs.Kept.{memory_of}
use Rattle.lane_state.proofs.LoadJudged.{own-judged, shared-judged}
use Rattle.lane_state.proofs.MapValues.{image-none, image-some}
use Rattle.lane_state.proofs.holdings.Holdings.judge_span.Goals as goal

pub returns-in-None : goal.returns-in-None
returns-in-None c =
    let h = c.args.self.now in
    c.judge_shared.ensures
    ∙ shared-judged (ideal_of h) c.args.map c.args.offset (run_of c.args.from c.args.len)
    (image-none memory_of h.memories.map c.args.map (sym c.in-None.ensures))

pub returns-in-Some : goal.returns-in-Some
returns-in-Some c =
    let h = c.args.self.now in
    let x = c.in-Some.kept.now in
    c.judge_own.ensures
    ∙ own-judged (ideal_of h) c.args.map c.args.offset (memory_of x) (run_of c.args.from c.args.len)
    (image-some memory_of h.memories.map c.args.map x (sym c.in-Some.ensures))
