use Rattle.std.proofs.Common.{◌≡◌, ◌+◌, [], drop, slice_index_or, sym, ap, ◌∙◌, arith}
use Rattle.busdma_machine.specs.declared.report.Judged.TheVariants.{Fine}
use Rattle.busdma_machine.specs.declared.machine.address.Span.{Span}
use Rattle.busdma_machine.specs.Machine.Spans.{span_addresses}
use Rattle.busdma_machine.specs.Runs.{run_of}
use Rattle.loan_table.proofs.Judgement.{length-run_of}
use Rattle.phys_memory.proofs.VectorLaws.{bytes_here}
use Rattle.phys_memory.specs.Memory.{memory_physical}
use Rattle.lane_state.specs.Ideal.{ideal_of}
use Rattle.lane_state.specs.Judging.{foreign_bytes}
use Rattle.lane_state.proofs.Foreign.{first-judged, only-fine, rest-of-spans, then-judged}
use Rattle.lane_state.proofs.holdings.Holdings.judge_spans.Goals as goal

-- the span that is read past the end of the list
abbrev no_span : Span
no_span = record { va = record { 0 = 0 }; len = 0 }

pub returns-in-Refused : goal.returns-in-Refused
returns-in-Refused c =
    let l = ideal_of c.args.self.now in
    let loop = c.loop-span in
    let spans = c.args.spans.now in
    let s = slice_index_or spans loop.span-index no_span in
    let rest = drop (loop.span-index + 1) spans in
    c.in-Refused.is
    ∙ sym (first-judged _ loop.offset (run_of s.va.0 s.len) (span_addresses rest) c.in-Refused.field-0
    (sym c.judge_span-foreign.ensures ∙ c.in-Refused.is))
    ∙ sym (ap (foreign_bytes l c.args.map loop.offset) (rest-of-spans spans loop.span-index c.loop-span-test.true))
    ∙ loop.invariant.judged

pub loop-span-preserved : goal.loop-span-preserved
loop-span-preserved c =
    let l = ideal_of c.args.self.now in
    let m = c.args.self.now.memory.memory in
    let loop = c.loop-span in
    let spans = c.args.spans.now in
    let s = slice_index_or spans loop.span-index no_span in
    let rest = drop (loop.span-index + 1) spans in
    let fine : c.judge_span-foreign.result ≡ Fine = only-fine c.judge_span-foreign.result
    (λ r e. c.in_default.not-Refused r e) in
    let len = length-run_of s.va.0 s.len in
    record {
      total = omega (
        arith,
        loop.invariant.total,
        bytes_here (memory_physical m) [] loop.offset spans loop.span-index no_span c.loop-span-test.true,
      );
      judged = ap (λ n. foreign_bytes l c.args.map (loop.offset + n) (span_addresses rest)) (sym len)
          ∙ sym (then-judged _ loop.offset (run_of s.va.0 s.len) (span_addresses rest)
          (sym c.judge_span-foreign.ensures ∙ fine))
          ∙ sym (ap (foreign_bytes l c.args.map loop.offset)
          (rest-of-spans spans loop.span-index c.loop-span-test.true))
          ∙ loop.invariant.judged;
    }
