use Rattle.std.proofs.Common.{◌≡◌, ◌≤◌, ◌+◌, ◌==◌, ◌∷◌, ◌++◌, [], List, length, sym, ap, ◌∙◌, subst, arith}
use Rattle.std.specs.List.{count_by}
use Rattle.std.proofs.lemmas.List.{length-append}
use Rattle.busdma_machine.specs.Machine.Page.{FrameBytes}
use Rattle.frame_bank.specs.FrameBank.{Bank, put_page, put_pages}
use Rattle.bounce_hub.proofs.Frames.{put_pages-last, put-apart, put-next, length-put_page}
use Rattle.bounce_hub.proofs.memories.give_all.Goals as goal

pub give-requires-clause-apart : goal.give-requires-clause-apart
give-requires-clause-apart c =
    put-apart c.loop-page.bank.pages c.loop-page.pages.items c.pop.new.self.items c.in-Some.page
    c.in-Some.ensures.some c.loop-page.invariant.apart

pub loop-page-preserved : goal.loop-page-preserved
loop-page-preserved c =
    let bank : List FrameBytes = c.loop-page.bank.pages in
    let rest : List FrameBytes = c.pop.new.self.items in
    let p : FrameBytes = c.in-Some.page in
    let is : c.loop-page.pages.items ≡ rest ++ p ∷ [] = c.in-Some.ensures.some in
    let now : c.give.new.self.pages ≡ put_page p bank = ap (λ (b : Bank). b.pages) c.give.ensures.bank in
    let room : c.give.new.self.room ≡ c.loop-page.bank.room = ap (λ (b : Bank). b.room) c.give.ensures.bank in
    record {
      putting = ap (put_pages rest) now ∙ sym (put_pages-last rest bank p)
          ∙ ap (λ (ps : List FrameBytes). put_pages ps bank) (sym is) ∙ c.loop-page.invariant.putting;
      apart =
          λ k. subst (λ (ps : List FrameBytes). count_by (λ q. q.frame == k) ps + count_by (λ q. q.frame == k) rest
          ≤ 1) (sym now) (put-next bank c.loop-page.pages.items rest p is c.loop-page.invariant.apart k);
      roomy =
          omega (
            arith,
            c.loop-page.invariant.roomy,
            ap (λ (ps : List FrameBytes). length ps) is,
            length-append rest (p ∷ []),
            ap (λ (ps : List FrameBytes). length ps) now,
            length-put_page p bank,
            room,
          );
      room = room ∙ c.loop-page.invariant.room;
    }
