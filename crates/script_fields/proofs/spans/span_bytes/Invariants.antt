use Rattle.std.proofs.Common.{◌≡◌, ◌*◌, ◌^◌, ◌≤◌, take}
use Rattle.busdma_machine.specs.Machine.Spans.{span_bytes}
use Rattle.script_fields.proofs.spans.span_bytes.Given as goal

abbrev pub invariant-loop-span : goal.invariant-loop-span
invariant-loop-span l = record {
  total : l.bytes ≡ span_bytes (take l.span-index l.spans);
  below : l.bytes ≤ 2 ^ 64 * l.span-index;
}
