use Rattle.std.proofs.Common.{◌≡◌, ◌+◌, ◌≤◌, ◌<◌, sym, ap, ◌∙◌, arith}
use Rattle.std.specs.List.{enumerate_from}
use Rattle.busdma_machine.specs.Judging.{judged}
use Rattle.busdma_machine.specs.Runs.{run_of}
use Rattle.busdma_rules.specs.Memory.Memories.{virtual_of}
use Rattle.lane_state.specs.Judging.{foreign_at}
use Rattle.lane_state.proofs.Foreign.{away-off, max-off, none-past, off_place}
use Rattle.lane_state.proofs.judging.judge_own.Goals as goal
use Rattle.lane_state.proofs.judging.judge_own.Goals.{then-from-begin_of, else-from-begin_of}

pub returns-then-end-offset : goal.returns-then-end-offset
returns-then-end-offset c =
    let b = virtual_of c.args.kept.now.first.0 in
    let n = c.args.kept.now.memory.len in
    let v = c.args.from in
    let len = c.args.len in
    let i = c.args.offset in
    elim c.if-from-begin_of.branch [
      | then-from-begin_of w ↦
          let inside : w.max-end.result < i + len = omega (arith, w.end-is, c.if-end-offset.true) in
          c.foreign.ensures ∙ ap foreign_at w.end-is
          ∙ sym (max-off b n v len i w.max-end.result (grind (arith, w.if-from-begin_of.true, c.begin_of.ensures.is))
          (grind (arith, w.max-end.ensures)) (grind (arith, w.max-end.ensures)) (grind (arith, w.max-end.ensures))
          inside)
      | else-from-begin_of w ↦
          let some : 0 < len = omega (arith, w.end-is, c.if-end-offset.true) in
          c.foreign.ensures ∙ ap foreign_at w.end-is
          ∙ sym (away-off b n v len i
          (λ e. w.if-from-begin_of.false (grind (arith, e, c.begin_of.ensures.is))) some)
    ]

pub returns-else-end-offset : goal.returns-else-end-offset
returns-else-end-offset c =
    let b = virtual_of c.args.kept.now.first.0 in
    let n = c.args.kept.now.memory.len in
    let v = c.args.from in
    let len = c.args.len in
    let i = c.args.offset in
    elim c.if-from-begin_of.branch [
      | then-from-begin_of w ↦
          let past : i + len ≤ w.max-end.result = omega (arith, w.end-is, c.if-end-offset.false) in
          sym (none-past b n v len i w.max-end.result (grind (arith, w.if-from-begin_of.true, c.begin_of.ensures.is))
          (grind (arith, w.max-end.ensures)) (grind (arith, w.max-end.ensures)) (grind (arith, w.max-end.ensures))
          past)
      | else-from-begin_of w ↦
          let none : len ≡ 0 = omega (arith, w.end-is, c.if-end-offset.false) in
          sym (ap (λ k. judged (off_place b n) i (enumerate_from i (run_of v k))) none)
    ]
