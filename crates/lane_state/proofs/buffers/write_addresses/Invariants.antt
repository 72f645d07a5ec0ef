use Rattle.std.proofs.Common.{◌≡◌, ◌+◌, ◌≤◌, length, take}
use Rattle.std.specs.List.{AllByRecursion}
use Rattle.busdma_machine.specs.Bounce.AccountStep.{as_pages}
use Rattle.busdma_machine.specs.Machine.PageList.{page_addresses}
use Rattle.busdma_rules.specs.Segments.Trace.{IsPage}
use Rattle.lane_state.proofs.buffers.write_addresses.Given as goal

abbrev pub invariant-loop-page : goal.invariant-loop-page
invariant-loop-page l = record {
  written : l.list.items ≡ as_pages (page_addresses (take l.page-index l.pages));
  at_frames : AllByRecursion IsPage l.list.items;
  room : l.initial.list.spare + length l.initial.list.items ≤ l.list.spare + length l.list.items;
}
