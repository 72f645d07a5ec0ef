use Rattle.std.proofs.Common.{◌≡◌, ◌*◌, ◌^◌, ◌≤◌, take}
use Rattle.busdma_machine.specs.Machine.Spans.{span_bytes}
use Rattle.load_mbuf.proofs.chain.total.Given as goal

abbrev pub invariant-loop-mbuf : goal.invariant-loop-mbuf
invariant-loop-mbuf l = record {
  total : l.bytes ≡ span_bytes (take l.mbuf-index l.chain);
  below : l.bytes ≤ 2 ^ 64 * l.mbuf-index;
}
