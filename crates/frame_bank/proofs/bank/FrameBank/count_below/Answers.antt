use Rattle.std.proofs.Common.{rules, sym, ap, ◌∙◌, arith, leb, ◌+◌}
use Rattle.std.proofs.lemmas.List.Sorted.{IsPartitionedBy-leb, IsPartitionPoint-from_clause}
use Rattle.busdma_machine.specs.Bounce.Growth.{frames_below}
use Rattle.busdma_machine.specs.Machine.PageList.{page_address}
use Rattle.frame_bank.specs.FrameBank.{Bank, free_frames}
use Rattle.frame_bank.proofs.Counted.{count_by-map, count_by-front}
use Rattle.frame_bank.proofs.Rising.{rising_pages, rising_ends}
use Rattle.frame_bank.proofs.bank.FrameBank.count_below.Goals as goal

pub returns-clause-count : goal.returns-clause-count
returns-clause-count c =
    let items = c.self.inside.free.items in
    let limit = c.args.limit.0 in
    let point = IsPartitionPoint-from_clause (λ p. leb (page_address p + 4095) limit) items c.partition_point.result
    c.partition_point.ensures.partitioned
    (IsPartitionedBy-leb (λ p. page_address p + 4095) items limit
    (rising_ends items (rising_pages items c.self.invariant.0.rising)))
    (λ a r f k. search rules) in
    sym (ap (λ (b : Bank). frames_below limit (free_frames b)) (sym c.self.view_is)
    ∙ count_by-map (λ f. leb (f + 4095) limit) page_address items
    ∙ count_by-front (λ p. leb (page_address p + 4095) limit) items
    c.partition_point.result (omega arith) point.0 point.1)
