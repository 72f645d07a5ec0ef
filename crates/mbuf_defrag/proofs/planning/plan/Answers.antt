use Rattle.std.proofs.Common.{arith, ◌≡◌, ◌++◌, ◌∙◌, ◌*◌, ◌≤◌, ap, sym, drop, [], List, length}
use Rattle.std.proofs.lemmas.Grind.{common_steps}
use Rattle.std.proofs.lemmas.List.{append-nil, drop_all}
use Rattle.busdma_machine.specs.declared.machine.address.Span.{Span}
use Rattle.busdma_machine.specs.declared.machine.address.Va.{Va}
use Rattle.busdma_machine.specs.Machine.Spans.{span_bytes}
use Rattle.busdma_rules.specs.Memory.Clusters.{front_of}
use Rattle.mbuf_defrag.proofs.Fronts.{front_bytes, front_none, planned}
use Rattle.mbuf_defrag.proofs.planning.plan.Goals.{else-loop-va-test, then-loop-va-test+then-left-eq0}
use Rattle.mbuf_defrag.proofs.planning.plan.Goals as goal

pub returns-clause-plan : goal.returns-clause-plan
returns-clause-plan c =
    let later : List Va = drop c.loop-va.va-index c.args.clusters.now in
    let none : front_of c.loop-va.left later ≡ [] =
    elim c.loop-va-test.branch [
      | else-loop-va-test w ↦
          let e : length c.args.clusters.now ≤ c.loop-va.va-index = grind (arith, common_steps) in
          ap (front_of c.loop-va.left) (drop_all c.loop-va.va-index c.args.clusters.now e)
      | then-loop-va-test+then-left-eq0 w ↦
          let e : c.loop-va.left ≡ 0 = grind (arith, common_steps) in
          ap (λ n. front_of n later) e ∙ front_none later
    ] in
    let is : c.new.result ≡ front_of (span_bytes c.args.chain.now) c.args.clusters.now =
    c.new.ensures ∙ sym (append-nil c.loop-va.spans.items) ∙ ap (λ (xs : List Span). c.loop-va.spans.items ++ xs)
    (sym none)
    ∙ c.loop-va.invariant.all in
    let enough : span_bytes c.args.chain.now ≤ 4096 * length c.args.clusters.now = grind (arith, common_steps) in
    planned c.args.chain.now c.args.clusters.now c.new.result enough is

pub returns-clause-bytes : goal.returns-clause-bytes
returns-clause-bytes c =
    let later : List Va = drop c.loop-va.va-index c.args.clusters.now in
    let none : front_of c.loop-va.left later ≡ [] =
    elim c.loop-va-test.branch [
      | else-loop-va-test w ↦
          let e : length c.args.clusters.now ≤ c.loop-va.va-index = grind (arith, common_steps) in
          ap (front_of c.loop-va.left) (drop_all c.loop-va.va-index c.args.clusters.now e)
      | then-loop-va-test+then-left-eq0 w ↦
          let e : c.loop-va.left ≡ 0 = grind (arith, common_steps) in
          ap (λ n. front_of n later) e ∙ front_none later
    ] in
    let is : c.new.result ≡ front_of (span_bytes c.args.chain.now) c.args.clusters.now =
    c.new.ensures ∙ sym (append-nil c.loop-va.spans.items) ∙ ap (λ (xs : List Span). c.loop-va.spans.items ++ xs)
    (sym none)
    ∙ c.loop-va.invariant.all in
    let enough : span_bytes c.args.chain.now ≤ 4096 * length c.args.clusters.now = grind (arith, common_steps) in
    ap span_bytes is ∙ front_bytes (span_bytes c.args.chain.now) c.args.clusters.now enough
