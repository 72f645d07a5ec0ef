use Rattle.std.proofs.Common.{◌≤◌, ◌&&◌, length, drop, get_or, sym, ap, ◌∙◌, arith}
use Rattle.std.proofs.lemmas.List.{length-drop, length-map}
use Rattle.busdma_machine.specs.Bounce.MemoryRuns.{crosses_none}
use Rattle.busdma_machine.specs.Machine.PageList.{page_address, page_addresses}
use Rattle.frame_bank.proofs.Runs.{follow-long, begins_run-ends}
use Rattle.frame_bank.proofs.run.begins_run.Goals as goal

pub index-requires-2 : goal.index-requires-2
index-requires-2 c =
    let addresses = page_addresses c.args.free.now.items in
    let long : c.frames_for-count.result ≤ length (drop c.args.at addresses) =
    follow-long c.frames_for-count.result (get_or addresses c.args.at 0) (drop c.args.at addresses)
    (sym c.follow.ensures ∙ c.if-not-follow.false) in
    omega (arith, long, length-drop c.args.at addresses, length-map c.args.free.now.items page_address)

pub returns-then-lies_below : goal.returns-then-lies_below
returns-then-lies_below c =
    c.crosses_none.ensures
    ∙ ap (λ a. crosses_none c.args.wish.len c.args.wish.boundary a.0) c.address-first.ensures
    ∙ ap (λ v. v && crosses_none c.args.wish.len c.args.wish.boundary (page_address c.index.result.now))
    (sym c.if-lies_below.true ∙ c.lies_below.ensures)
    ∙ sym (begins_run-ends c.args.wish.len c.args.wish.boundary c.args.wish.limit.0 c.frames_for-count.result c.args.at
    c.args.free.now.items c.index.result.now c.index-2.result.now
    c.requires.rising c.requires.inside c.frames_for-count.ensures (omega arith) (sym c.follow.ensures
    ∙ c.if-not-follow.false) c.index.ensures c.index-2.ensures)

pub returns-else-lies_below : goal.returns-else-lies_below
returns-else-lies_below c =
    c.if-lies_below.false
    ∙ ap (λ v. v && crosses_none c.args.wish.len c.args.wish.boundary (page_address c.index.result.now))
    (sym c.if-lies_below.false ∙ c.lies_below.ensures)
    ∙ sym (begins_run-ends c.args.wish.len c.args.wish.boundary c.args.wish.limit.0 c.frames_for-count.result c.args.at
    c.args.free.now.items c.index.result.now c.index-2.result.now
    c.requires.rising c.requires.inside c.frames_for-count.ensures (omega arith) (sym c.follow.ensures
    ∙ c.if-not-follow.false) c.index.ensures c.index-2.ensures)
