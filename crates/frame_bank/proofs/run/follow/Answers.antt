use Rattle.std.proofs.Common.{◌+◌, ◌-◌, drop, get_or, eqb, sym, ap, ◌∙◌, arith}
use Rattle.std.proofs.lemmas.List.{length-drop, length-map}
use Rattle.std.proofs.lemmas.Bool.{lt-leb}
use Rattle.busdma_machine.specs.Machine.PageList.{page_addresses}
use Rattle.frame_bank.proofs.Runs.{follow-at, follow-short}
use Rattle.frame_bank.proofs.run.follow.Goals as goal

pub returns-then-count-len : goal.returns-then-count-len
returns-then-count-len c =
    ap (λ k. eqb k (c.frame-then-count-len.result + (c.args.count - 1))) c.frame.ensures.number
    ∙ ap (λ k. eqb c.index.result.now.frame (k + (c.args.count - 1))) c.frame-then-count-len.ensures.number
    ∙ sym (follow-at c.args.count c.args.at c.args.free.now.items c.index-then-count-len.result.now c.index.result.now
    c.requires.rising c.requires.inside c.requires.some (omega arith)
    c.index-then-count-len.ensures c.index.ensures)

pub returns-else-count-len : goal.returns-else-count-len
returns-else-count-len c =
    lt-leb c.args.count (c.len.result - c.args.at) (omega arith)
    ∙ sym (follow-short c.args.count (get_or (page_addresses c.args.free.now.items) c.args.at 0)
    (drop c.args.at (page_addresses c.args.free.now.items)) (simp (length-drop, length-map) (omega arith)))
