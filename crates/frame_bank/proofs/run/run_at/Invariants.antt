use Rattle.std.proofs.Common.{◌≡◌, drop}
use Rattle.busdma_machine.specs.Bounce.MemoryRuns.{lowest_run}
use Rattle.busdma_machine.specs.Machine.PageList.{page_addresses}
use Rattle.frame_bank.proofs.run.run_at.Given as goal

abbrev pub invariant-loop-at : goal.invariant-loop-at
invariant-loop-at l =
    lowest_run l.wish.len l.wish.boundary l.wish.limit.0 (drop l.at (page_addresses l.free.items))
    ≡ lowest_run l.wish.len l.wish.boundary l.wish.limit.0 (page_addresses l.free.items)
