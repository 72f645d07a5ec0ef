use Rattle.std.proofs.Common.{◌≡◌, ℕ, List, ◌∷◌, [], sym, ap, ◌∙◌}
use Rattle.std.specs.FinMap.{entries}
use Rattle.std.specs.List.{list_any}
use Rattle.busdma_machine.specs.Judging.{judged}
use Rattle.busdma_machine.specs.Runs.{run_of}
use Rattle.ideal_lane.specs.Places.{is_in_memory}
use Rattle.lane_state.specs.declared.kept.KeptMemory.{KeptMemory}
use Rattle.lane_state.specs.Judging.{earlier, foreign_refusal}
use Rattle.lane_state.specs.Kept.{memory_of}
use Rattle.lane_state.proofs.Earlier.{earlier-three}
use Rattle.lane_state.proofs.Foreign.{any-within, nothing-foreign, fine-last}
use Rattle.lane_state.proofs.LoadJudged.{memory-bytes}
use Rattle.lane_state.proofs.holdings.Holdings.judge_shared.Goals as goal

pub loop-kept-init : goal.loop-kept-init
loop-kept-init c =
    let h = c.args.self.now in
    let vas = run_of c.args.from c.args.len in
    let same : c.into_iter-kept-iterator.result ≡ entries h.memories.map = cc in
    ap (λ (es : List (ℕ × KeptMemory)). judged (λ v. foreign_refusal
    (list_any (λ e. is_in_memory v (memory_of e.1)) es)) c.args.offset vas) same
    ∙ memory-bytes h c.args.offset vas

pub loop-kept-preserved : goal.loop-kept-preserved
loop-kept-preserved c =
    let vas = run_of c.args.from c.args.len in
    let all : c.loop-kept.kept-iterator ≡ (c.in-Some.field-0-0, c.in-Some.kept.now) ∷ c.next.new.self =
    c.in-Some.ensures.steps in
    let rest = judged (λ v. foreign_refusal (list_any (λ e. is_in_memory v (memory_of e.1)) c.next.new.self))
    c.args.offset vas in
    ap (λ j. earlier j rest) (c.earlier-first.ensures ∙ ap (earlier c.loop-kept.first) c.judge_inside.ensures)
    ∙ earlier-three c.loop-kept.first _ rest
    ∙ ap (earlier c.loop-kept.first) (sym (any-within (λ (e : ℕ × KeptMemory) v. is_in_memory v (memory_of e.1))
    (c.in-Some.field-0-0, c.in-Some.kept.now) c.next.new.self c.args.offset vas))
    ∙ ap (λ (es : List (ℕ × KeptMemory)). earlier c.loop-kept.first
    (judged (λ v. foreign_refusal (list_any (λ e. is_in_memory v (memory_of e.1)) es)) c.args.offset vas))
    (sym all)
    ∙ c.loop-kept.invariant

pub returns : goal.returns
returns c =
    let vas = run_of c.args.from c.args.len in
    let none : c.loop-kept.kept-iterator ≡ [] = c.in-None.ensures.steps.0 in
    sym (ap (earlier c.loop-kept.first) (nothing-foreign c.args.offset vas) ∙ fine-last c.loop-kept.first)
    ∙ sym (ap (λ (es : List (ℕ × KeptMemory)). earlier c.loop-kept.first
    (judged (λ v. foreign_refusal (list_any (λ e. is_in_memory v (memory_of e.1)) es)) c.args.offset vas)) none)
    ∙ c.loop-kept.invariant
