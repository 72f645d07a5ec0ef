use Rattle.std.proofs.Common.{◌≡◌, ◌+◌, ◌*◌, ◌/◌, false, cond, ap, sym, ◌∙◌, subst, arith}
use Rattle.phys_memory.specs.Memory.{memory_has_page, with_page}
use Rattle.lane_state.specs.OpeningMemory.{HasPageRun}
use Rattle.lane_core.proofs.OpeningPages.{first_of, next_page, has_more}
use Rattle.lane_core.proofs.opening.add_run.Goals as goal

pub loop-i-preserved : goal.loop-i-preserved
loop-i-preserved c =
    let run = c.args.run.now in
    let i = c.loop-i.i in
    let m = c.args.memory.now.memory in
    let n = c.loop-i.memory.memory in
    let page = c.in_ok-page.page in
    let number : (run.va.0 + 4096 * i) / 4096 ≡ run.va.0 / 4096 + i = let h = c.requires.aligned in omega arith in
    let absent : memory_has_page n (run.va.0 + 4096 * i) ≡ false =
    next_page run i ((run.va.0 + 4096 * i) / 4096) m n c.loop-i-test.true number
    c.requires.fresh c.loop-i.invariant in
    let is = c.in_ok-add.ensures.memory ∙ ap (λ b. cond b n (with_page n (run.va.0 + 4096 * i) page 4096)) absent in
    subst (λ x. HasPageRun (first_of run (i + 1)) m x) (sym is)
    (has_more run i m n page c.requires.aligned c.loop-i.invariant
    c.in_ok-page.ensures.frame c.in_ok-page.ensures.bytes)
