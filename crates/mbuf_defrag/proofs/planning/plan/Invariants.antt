use Rattle.std.proofs.Common.{◌≡◌, ◌++◌, ◌*◌, ◌≤◌, length, drop}
use Rattle.busdma_machine.specs.Machine.Spans.{span_bytes}
use Rattle.busdma_rules.specs.Memory.Clusters.{front_of}
use Rattle.mbuf_defrag.proofs.planning.plan.Given as goal

abbrev pub invariant-loop-va : goal.invariant-loop-va
invariant-loop-va l = record {
  all : l.spans.items ++ front_of l.left (drop l.va-index l.clusters) ≡ front_of (span_bytes l.chain) l.clusters;
  enough : l.left ≤ 4096 * length (drop l.va-index l.clusters);
}
