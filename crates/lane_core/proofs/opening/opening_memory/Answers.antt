use Rattle.std.proofs.Common.{take, get_or, subst}
use Rattle.std.proofs.lemmas.List.{take_all}
use Rattle.lane_state.proofs.OwnRuns.{no_run, own_at}
use Rattle.lane_core.proofs.OpeningPages.{HoldsPages, has_no_pages, is_without, has_next, has_opening}
use Rattle.lane_core.proofs.opening.opening_memory.Goals as goal

pub loop-run-init : goal.loop-run-init
loop-run-init c = has_no_pages c.new-memory.result.memory c.new-memory.ensures.table c.new-memory.ensures.frames

pub add_run-requires-clause-aligned : goal.add_run-requires-clause-aligned
add_run-requires-clause-aligned c =
    (own_at c.args.pages.now c.loop-run.run-index c.requires c.loop-run-test.true).aligned

pub add_run-requires-clause-low : goal.add_run-requires-clause-low
add_run-requires-clause-low c = (own_at c.args.pages.now c.loop-run.run-index c.requires c.loop-run-test.true).low

pub add_run-requires-clause-numbered : goal.add_run-requires-clause-numbered
add_run-requires-clause-numbered c =
    (own_at c.args.pages.now c.loop-run.run-index c.requires c.loop-run-test.true).numbered

pub add_run-requires-clause-fresh : goal.add_run-requires-clause-fresh
add_run-requires-clause-fresh c =
    is_without (take c.loop-run.run-index c.args.pages.now)
    (get_or c.args.pages.now c.loop-run.run-index no_run) c.loop-run.memory.memory
    (own_at c.args.pages.now c.loop-run.run-index c.requires c.loop-run-test.true) c.loop-run.invariant

pub loop-run-preserved : goal.loop-run-preserved
loop-run-preserved c =
    has_next c.args.pages.now c.loop-run.run-index c.loop-run.memory.memory c.add_run.new.memory.memory
    c.loop-run-test.true c.requires c.loop-run.invariant c.in_ok-add_run.ensures

pub returns : goal.returns
returns c =
    has_opening c.args.pages.now c.loop-run.memory.memory c.requires
    (subst (λ ps. HoldsPages ps c.loop-run.memory.memory)
    (take_all c.loop-run.run-index c.args.pages.now c.loop-run-test.false) c.loop-run.invariant)
