use Rattle.std.proofs.Common.{rules, ◌≡◌, ◌+◌, ◌^◌, ◌<◌, ◌≤◌, ◌==◌, true, false, leb, List, length, sym, ap, subst}
use Rattle.std.proofs.Common.{◌∙◌, arith}
use Rattle.std.specs.List.{count_by}
use Rattle.std.specs.List.Sorted.{IsPartitionPoint}
use Rattle.std.proofs.lemmas.List.Sorted.{IsPartitionedBy-leb, IsPartitionPoint-from_clause}
use Rattle.busdma_machine.specs.Machine.Page.{FrameBytes}
use Rattle.busdma_machine.specs.Bounce.History.{IsRising}
use Rattle.busdma_machine.specs.Bounce.MemoryRuns.{put_in}
use Rattle.busdma_machine.specs.Machine.PageList.{page_address, page_addresses}
use Rattle.frame_bank.specs.FrameBank.{Bank, free_frames, put_page}
use Rattle.std.proofs.lemmas.List.Elements.{All-same}
use Rattle.frame_bank.proofs.Placing.{All-put_page, put_page-insert, put_page-rising, length-put_page}
use Rattle.frame_bank.proofs.Placing.{page_addresses-put_page}
use Rattle.frame_bank.proofs.Rising.{AreRising, rising_pages, rising_addresses, rising_never_falls}
use Rattle.frame_bank.proofs.bank.FrameBank.put.Goals as goal

rising : (c : goal.After-unwrap) → AreRising c.self.inside.free.items
rising c = rising_pages c.self.inside.free.items c.self.invariant.0.rising

-- the pages below the place are not above the page, and the others are
point : (c : goal.After-unwrap) → IsPartitionPoint (λ q. leb q.frame c.args.frame.frame ≡ true)
    (λ q. leb q.frame c.args.frame.frame ≡ false) c.self.inside.free.items c.partition_point-at.result
point c =
    IsPartitionPoint-from_clause (λ q. leb q.frame c.args.frame.frame) c.self.inside.free.items
    c.partition_point-at.result c.partition_point-at.ensures.partitioned
    (IsPartitionedBy-leb (λ q. q.frame) c.self.inside.free.items c.args.frame.frame
    (rising_never_falls c.self.inside.free.items (rising c)))
    (λ a r f k. search rules)

placed : (c : goal.After-unwrap) → c.insert-kept.new.self.items ≡ put_page c.args.frame c.self.inside.free.items
placed c =
    (rw c.unwrap.ensures at c.insert-kept.ensures.items)
    ∙ sym (put_page-insert c.args.frame c.self.inside.free.items c.partition_point-at.result
    (omega arith) (point c).0 (point c).1)

pub invariant_of-self : goal.invariant_of-self
invariant_of-self c =
    let apart : count_by (λ q. q.frame == c.args.frame.frame) c.self.inside.free.items ≡ 0 =
    ap (λ (b : Bank). count_by (λ q. q.frame == c.args.frame.frame) b.pages) c.self.view_is ∙ c.requires.apart in
    let longer : length c.insert-kept.new.self.items ≡ length c.self.inside.free.items + 1 =
    ap length (placed c) ∙ length-put_page c.args.frame c.self.inside.free.items in
    let fits : length c.self.inside.free.items + 1 ≤ c.self.inside.room =
    subst (λ (b : Bank). length b.pages + 1 ≤ b.room) (sym c.self.view_is) (omega arith) in (
      record {
        rising =
            subst (λ ps. IsRising (page_addresses ps)) (sym (placed c))
            (rising_addresses _ (put_page-rising c.args.frame c.self.inside.free.items (rising c) apart));
        numbered =
            All-same (λ p. p.frame < 2 ^ 30) _ _ (placed c)
            (All-put_page (λ p. p.frame < 2 ^ 30) c.args.frame c.self.inside.free.items
            (omega (arith, c.frame-number.ensures.below)) c.self.invariant.0.numbered);
        roomy = omega arith;
        few = c.self.invariant.0.few;
      },
      omega arith,
    )

pub returns-clause-bank : goal.returns-clause-bank
returns-clause-bank c =
    let made : List FrameBytes → Bank = λ ps. record { pages = ps; room = c.self.inside.room } in
    ap made (placed c)
    ∙ ap (λ (b : Bank). record { pages = put_page c.args.frame b.pages; room = b.room }) c.self.view_is

pub returns-clause-free : goal.returns-clause-free
returns-clause-free c =
    ap page_addresses (placed c) ∙ page_addresses-put_page c.args.frame c.self.inside.free.items
    ∙ ap (λ (b : Bank). put_in (page_address c.args.frame) (free_frames b)) c.self.view_is

pub returns-clause-sound : goal.returns-clause-sound
returns-clause-sound c = (invariant_of-self c).0
