use Rattle.std.proofs.Common.{◌≡◌, ℕ, ◌+◌, ◌-◌, ◌^◌, ◌≤◌, ◌||◌, not, cond, is_some, Some, sym, ap, ◌∙◌, arith}
use Rattle.std.proofs.lemmas.Bool.{le-leb}
use Rattle.std.specs.FinMap.{entries}
use Rattle.busdma_machine.specs.declared.report.ReportName.TheVariants.{Untranslated}
use Rattle.busdma_machine.specs.Judging.{judged}
use Rattle.busdma_machine.specs.Runs.{run_of}
use Rattle.busdma_rules.specs.Iommu.Space.{translated}
use Rattle.loan_table.proofs.Judgement.{length-run_of}
use Rattle.ideal_lane.specs.Accesses.{position_in, unless_unlent}
use Rattle.lane_state.specs.Ideal.{ideal_of}
use Rattle.lane_access.specs.Raw.{lent_refusal, refusal_of, unlent_of}
use Rattle.lane_access.proofs.RawJudging.{goes-on, refused-within, stops, stops-here}
use Rattle.lane_access.proofs.raw.judge_raw.Goals as goal

pub loop-done-init : goal.loop-done-init
loop-done-init c =
    let f = refusal_of c.args.access (ideal_of c.args.holdings.now) c.args.tag in
    let e : c.args.addr + 0 ≡ c.args.addr = omega arith in
    let k : c.args.len - 0 ≡ c.args.len = omega arith in
    record {
      to = omega arith;
      left = ap (λ a. judged f 0 (run_of a (c.args.len - 0))) e ∙ ap (λ n. judged f 0 (run_of c.args.addr n)) k;
    }

pub returns-in_default : goal.returns-in_default
returns-in_default c =
    let l = ideal_of c.args.holdings.now in
    let f = refusal_of c.args.access l c.args.tag in
    let a : ℕ = c.args.addr + c.loop-done.done in
    let over : 2 ^ 64 ≤ a = grind (arith, c.checked_add.ensures, c.in_default.is) in
    let untranslated : f a ≡ Some Untranslated =
    ap (λ b. cond (b || not (is_some (translated (l.spaces c.args.tag) a))) (Some Untranslated)
    (unless_unlent (unlent_of c.args.access) (lent_refusal c.args.access l)
    (position_in l c.args.tag a (entries l.maps)))) (le-leb (2 ^ 64) a over) in
    stops-here f c.args.addr c.loop-done.done c.args.len _ c.loop-done.invariant.left c.loop-done-test.true Untranslated
    untranslated

pub overflow_add-result : goal.overflow_add-result
overflow_add-result c =
    let f = refusal_of c.args.access (ideal_of c.args.holdings.now) c.args.tag in
    let part = c.judge_part-part.result in
    let within =
    refused-within f 0 (run_of c.in-Some.at part.len) c.in-Refused.refusal
    (sym c.judge_part-part.ensures.is ∙ c.in-Refused.is) in
    let size = length-run_of c.in-Some.at part.len in
    let most = c.judge_part-part.ensures.most in
    omega (arith, within, size, most)

pub returns-in-Refused : goal.returns-in-Refused
returns-in-Refused c =
    let f = refusal_of c.args.access (ideal_of c.args.holdings.now) c.args.tag in
    let part = c.judge_part-part.result in
    let at : c.in-Some.at ≡ c.args.addr + c.loop-done.done = grind (arith, c.checked_add.ensures, c.in-Some.is) in
    stops f c.args.addr c.loop-done.done c.args.len _ c.loop-done.invariant.left c.loop-done-test.true part.len
    c.judge_part-part.ensures.most c.in-Refused.refusal
    (ap (λ a. judged f 0 (run_of a part.len)) (sym at) ∙ sym c.judge_part-part.ensures.is ∙ c.in-Refused.is)

pub loop-done-preserved : goal.loop-done-preserved
loop-done-preserved c =
    let f = refusal_of c.args.access (ideal_of c.args.holdings.now) c.args.tag in
    let part = c.judge_part-part.result in
    let at : c.in-Some.at ≡ c.args.addr + c.loop-done.done = grind (arith, c.checked_add.ensures, c.in-Some.is) in
    record {
      to = omega arith;
      left = goes-on f c.args.addr c.loop-done.done c.args.len _ c.loop-done.invariant.left c.loop-done-test.true
          part.len c.judge_part-part.ensures.most
          (ap (λ a. judged f 0 (run_of a part.len)) (sym at) ∙ sym c.judge_part-part.ensures.is
          ∙ c.in_default-judged.is);
    }
