use Rattle.std.proofs.Common.{◌≡◌, ◌+◌, ◌≤◌, sym, ◌∙◌, arith, ◌⊎◌}
use Rattle.busdma_rules.specs.Memory.Memories.{virtual_of}
use Rattle.lane_state.proofs.Foreign.{first-within, none-within}
use Rattle.lane_state.proofs.judging.judge_inside.Goals as goal
use Rattle.lane_state.proofs.judging.judge_inside.Goals.{else-first-end-via-then-first-end+else-first-from}
use Rattle.lane_state.proofs.judging.judge_inside.Goals.{else-first-end-via-else-first-end}

pub returns-then-first-from : goal.returns-then-first-from
returns-then-first-from c =
    let first = c.max-first.result in
    c.foreign.ensures
    ∙ sym (first-within (virtual_of c.args.kept.now.first.0) c.args.kept.now.memory.len c.args.from
    c.args.len
    c.args.offset first
    (grind (arith, c.max-first.ensures, c.begin_of-begin.ensures.is))
    (grind (arith, c.max-first.ensures, c.begin_of-begin.ensures.is))
    (grind (arith, c.max-first.ensures, c.begin_of-begin.ensures.is))
    (grind (arith, c.if-first-end.true, c.begin_of-begin.ensures.is))
    (grind (arith, c.if-first-from.true)))

pub returns-else-first-end : goal.returns-else-first-end
returns-else-first-end c =
    let b = virtual_of c.args.kept.now.first.0 in
    let n = c.args.kept.now.memory.len in
    let v = c.args.from in
    let len = c.args.len in
    let apart : (b + n ≤ v) ⊎ ((v + len ≤ b) ⊎ ((n ≡ 0) ⊎ (len ≡ 0))) = elim c.else-first-end.branch [
      | else-first-end-via-then-first-end+else-first-from w ↦
          grind (arith, c.max-first.ensures, c.begin_of-begin.ensures.is, w.if-first-from.false)
      | else-first-end-via-else-first-end w ↦
          grind (arith, c.max-first.ensures, c.begin_of-begin.ensures.is, w.if-first-end.false)
    ] in
    sym (none-within b n v len c.args.offset apart)
