use Rattle.std.proofs.Common.{◌++◌, ap, ◌∙◌, append-nil, sym, arith}
use Rattle.std.proofs.lemmas.List.{drop_more, at_drop_all}
use Rattle.std.proofs.lemmas.List.Sums.{sum_by-drop_more}
use Rattle.busdma_machine.specs.declared.machine.address.Extent.{Extent}
use Rattle.loan_table.specs.Rows.{starts_from}
use Rattle.loan_table.proofs.Addresses.{no_extent}
use Rattle.loan_table.proofs.Stretches.{start_added}
use Rattle.loan_table.proofs.buffer.starts_of.Goals as goal

pub loop-run-preserved : goal.loop-run-preserved
loop-run-preserved c =
    let es = c.args.stretches.now in
    let i = c.loop-run.run-index in
    let more = sum_by-drop_more (λ (e : Extent). e.len) es i no_extent c.loop-run-test.true in
    record {
      starts = start_added c.loop-run.starts.items _ _ c.loop-run.before _ _ _ c.in_ok-push.ensures.items
          (drop_more es i no_extent c.loop-run-test.true) c.loop-run.invariant.starts;
      counted = omega (arith, more, c.loop-run.invariant.counted);
    }

pub returns : goal.returns
returns c =
    sym (append-nil c.loop-run.starts.items)
    ∙ sym (ap (λ xs. c.loop-run.starts.items ++ xs)
    (at_drop_all (starts_from c.loop-run.before) c.args.stretches.now c.loop-run.run-index c.loop-run-test.false))
    ∙ c.loop-run.invariant.starts
