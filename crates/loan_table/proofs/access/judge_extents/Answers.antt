use Rattle.std.proofs.Common.{refl, ap, sym, ◌∙◌, ◌+◌, drop, slice_index_or, arith}
use Rattle.std.proofs.lemmas.List.{at_drop_more}
use Rattle.std.proofs.lemmas.List.Sums.{sum_by-drop_more}
use Rattle.busdma_machine.specs.declared.machine.address.Extent.{Extent}
use Rattle.busdma_machine.specs.Judging.{judged}
use Rattle.busdma_machine.specs.Runs.{addresses, run_of}
use Rattle.loan_table.specs.Kinds.{cpu_refusal}
use Rattle.loan_table.specs.Table.{is_marked}
use Rattle.loan_table.proofs.Addresses.{no_extent}
use Rattle.loan_table.proofs.Judgement.{judged-fine, judged-refused, length-run_of}
use Rattle.loan_table.proofs.access.judge_extents.Goals as goal

pub returns-in-Refused : goal.returns-in-Refused
returns-in-Refused c loans counted =
    let refusal = cpu_refusal c.args.access (is_marked c.args.bytes.now.bytes) loans in
    let extents = c.args.extents.now in
    let i = c.loop-extent.extent-index in
    sym (judged-refused refusal c.loop-extent.at _ (addresses (drop (i + 1) extents)) c.in-Refused.report
    (sym (c.judge_extent.ensures.is loans counted) ∙ c.in-Refused.is))
    ∙ sym (ap (judged refusal c.loop-extent.at) (at_drop_more addresses extents i no_extent c.loop-extent-test.true))
    ∙ c.loop-extent.invariant.judged_so_far loans counted

pub loop-extent-preserved : goal.loop-extent-preserved
loop-extent-preserved c =
    let extents = c.args.extents.now in
    let i = c.loop-extent.extent-index in
    let extent = slice_index_or extents i no_extent in
    let rest = addresses (drop (i + 1) extents) in
    record {
      judged_so_far = λ loans counted.
          let refusal = cpu_refusal c.args.access (is_marked c.args.bytes.now.bytes) loans in
          sym (ap (λ n. judged refusal (c.loop-extent.at + n) rest) (length-run_of extent.pa.0 extent.len))
          ∙ sym (judged-fine refusal c.loop-extent.at (run_of extent.pa.0 extent.len) rest
          (sym (c.judge_extent.ensures.is loans counted) ∙ c.in_default.is))
          ∙ sym (ap (judged refusal c.loop-extent.at)
          (at_drop_more addresses extents i no_extent c.loop-extent-test.true))
          ∙ c.loop-extent.invariant.judged_so_far loans counted;
      unlent = c.judge_extent.ensures.unlent;
      in_place = omega (arith, sum_by-drop_more (λ (e : Extent). e.len) extents i no_extent c.loop-extent-test.true);
    }

pub loop-extent-init : goal.loop-extent-init
loop-extent-init c = record {
  judged_so_far = λ loans counted. refl;
  unlent = λ a from to. absurd (omega (arith, c.nothing.ensures));
  in_place = omega arith;
}
