use Rattle.std.proofs.Common.{◌<◌, ℕ, Option, is_some, sym, ap, ◌∙◌, arith}
use Rattle.std.specs.List.{enumerate_from}
use Rattle.busdma_machine.specs.Judging.{judged}
use Rattle.busdma_machine.specs.Runs.{run_of}
use Rattle.ideal_lane.specs.State.{LaneMemory}
use Rattle.lane_state.specs.Judging.{foreign_refusal}
use Rattle.lane_state.specs.Kept.{memory_of}
use Rattle.lane_state.proofs.Foreign.{each-foreign, nothing-refused}
use Rattle.lane_state.proofs.MapValues.{image-none, image-some}
use Rattle.lane_state.proofs.holdings.Holdings.judge_frames.Goals as goal

pub returns-in_default : goal.returns-in_default
returns-in_default c =
    let h = c.args.self.now in
    let bytes = enumerate_from 0 (run_of c.args.off c.args.len) in
    let none = image-none memory_of h.memories.map c.args.map (sym c.in_default.ensures) in
    sym (ap (λ (o : Option LaneMemory). judged (λ (x : ℕ × ℕ). foreign_refusal (is_some o)) 0 bytes) none
    ∙ nothing-refused 0 bytes)

pub returns : goal.returns
returns c =
    let h = c.args.self.now in
    let bytes = enumerate_from 0 (run_of c.args.off c.args.len) in
    let there = image-some memory_of h.memories.map c.args.map _ (sym c.in-Some.ensures) in
    let some : 0 < c.args.len = omega (arith, c.if-len-eq0.false) in
    c.foreign.ensures
    ∙ sym (ap (λ (o : Option LaneMemory). judged (λ (x : ℕ × ℕ). foreign_refusal (is_some o)) 0 bytes) there
    ∙ each-foreign c.args.off c.args.len 0 some)
