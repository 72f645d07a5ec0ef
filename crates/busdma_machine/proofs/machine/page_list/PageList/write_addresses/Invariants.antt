use Rattle.std.proofs.Common.{◌≡◌, ◌+◌, ◌++◌, take, vec_len, vec_capacity}
use Rattle.busdma_machine.specs.Bounce.AccountStep.{as_pages}
use Rattle.busdma_machine.specs.Machine.PageList.{page_addresses}
use Rattle.busdma_machine.proofs.machine.page_list.PageList.write_addresses.Given as goal

abbrev pub invariant-loop-page : goal.invariant-loop-page
invariant-loop-page l = record {
  written : l.list.items ≡ l.fn.list.items ++ as_pages (page_addresses (take l.page-index l.page-items));
  len : vec_len l.list ≡ vec_len l.fn.list + l.page-index;
  room : vec_capacity l.list ≡ vec_capacity l.fn.list;
}
