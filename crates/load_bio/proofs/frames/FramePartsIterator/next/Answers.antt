use Rattle.std.proofs.Common.{false, length, ap, sym, ◌∙◌, subst, arith}
use Rattle.busdma_rules.specs.Memory.Extents.{reached_addresses}
use Rattle.phys_memory.specs.Walk.{run_stream}
use Rattle.busdma_rules.specs.Memory.BioFrames.{AreFrames, in_frames}
use Rattle.load_bio.proofs.InFrames.{frames_stream}
use Rattle.load_bio.proofs.frames.FramePartsIterator.next.Goals as goal

pub returns-clause-steps : goal.returns-clause-steps
returns-clause-steps c =
    let s = c.self.inside in
    let are = c.in-Some.ensures.cases.0 in
    let all = subst AreFrames are c.self.invariant.2 in
    sym c.self.view_is ∙ ap (λ fs. run_stream (reached_addresses (in_frames fs) s.off s.left) s.left s.offset s.opens
    false) are
    ∙ frames_stream c.in-Some.frame.now c.in-Some.others.now s.off c.min.result s.left s.offset s.opens all.0
    c.self.invariant.0 (omega arith) (omega arith)

pub returns-clause-goes : goal.returns-clause-goes
returns-clause-goes c =
    let s = c.self.inside in
    let are = c.in-Some.ensures.cases.0 in
    let all = subst AreFrames are c.self.invariant.2 in
    let e =
    sym c.self.view_is
    ∙ ap (λ fs. run_stream (reached_addresses (in_frames fs) s.off s.left) s.left s.offset s.opens false) are
    ∙ frames_stream c.in-Some.frame.now c.in-Some.others.now s.off c.min.result s.left s.offset s.opens all.0
    c.self.invariant.0 (omega arith) (omega arith) in
    record { on = λ _. (tt, tt, omega (arith, ap length e)); keeps = tt; rests = λ _. tt }
