use Rattle.std.proofs.Common.{◌≡◌, ◌+◌, drop}
use Rattle.busdma_machine.specs.Machine.Spans.{span_addresses, span_bytes}
use Rattle.lane_state.specs.Ideal.{ideal_of}
use Rattle.lane_state.specs.Judging.{foreign_bytes}
use Rattle.lane_state.proofs.holdings.Holdings.judge_spans.Given as goal

abbrev pub invariant-loop-span : goal.invariant-loop-span
invariant-loop-span l = record {
  total : l.offset + span_bytes (drop l.span-index l.spans) ≡ span_bytes l.spans;
  judged : foreign_bytes (ideal_of l.self) l.map l.offset (span_addresses (drop l.span-index l.spans))
      ≡ foreign_bytes (ideal_of l.self) l.map 0 (span_addresses l.spans);
}
