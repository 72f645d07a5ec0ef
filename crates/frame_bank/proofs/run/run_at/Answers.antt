use Rattle.std.proofs.Common.{◌<◌, length, sym, ◌∙◌, arith}
use Rattle.std.proofs.lemmas.List.{length-map}
use Rattle.busdma_machine.specs.Machine.PageList.{page_address, page_addresses}
use Rattle.frame_bank.proofs.Runs.{lowest_run-here, lowest_run-later}
use Rattle.frame_bank.proofs.run.run_at.Goals as goal

pub loop-at-preserved : goal.loop-at-preserved
loop-at-preserved c =
    let addresses = page_addresses c.args.free.now.items in
    let inside : c.loop-at.at < length addresses = omega (arith, length-map c.args.free.now.items page_address) in
    sym (lowest_run-later c.args.wish.len c.args.wish.boundary c.args.wish.limit.0 c.loop-at.at addresses inside
    (sym c.begins_run.ensures ∙ c.if-begins_run.false))
    ∙ c.loop-at.invariant

pub returns-then-begins_run : goal.returns-then-begins_run
returns-then-begins_run c =
    let addresses = page_addresses c.args.free.now.items in
    let inside : c.loop-at.at < length addresses = omega (arith, length-map c.args.free.now.items page_address) in
    let begins = sym c.begins_run.ensures ∙ c.if-begins_run.true in (
      omega arith,
      begins,
      sym c.loop-at.invariant ∙ lowest_run-here c.args.wish.len c.args.wish.boundary c.args.wish.limit.0
          c.loop-at.at addresses inside begins,
    )
