use Rattle.std.proofs.Common.{get_or, length, ap, sym, ◌∙◌}
use Rattle.std.proofs.lemmas.List.{length-map}
use Rattle.busdma_machine.specs.Bounce.MemoryRuns.{frames_from}
use Rattle.busdma_machine.specs.Machine.PageList.{page_address, page_addresses}
use Rattle.memory_pages.proofs.Runs.{row_is}
use Rattle.memory_pages.proofs.pages.first_address.Goals as goal

pub returns-clause-row : goal.returns-clause-row
returns-clause-row c =
    let pages = c.args.pages.now.items in
    row_is (page_addresses pages) c.requires
    ∙ ap (λ n. frames_from n (get_or (page_addresses pages) 0 0)) (length-map pages page_address)
    ∙ ap (frames_from (length pages)) (ap (λ a. a.0) (sym c.first_address.ensures))
