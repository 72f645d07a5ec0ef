use Rattle.std.proofs.Common.{◌≡◌, ◌+◌, ◌*◌, ◌++◌, List, [], ◌∷◌, length, Some, refl, ap, sym, ◌∙◌, subst}
use Rattle.std.proofs.Common.{append-nil, arith}
use Rattle.std.specs.Option.{IsSome}
use Rattle.busdma_machine.specs.Bounce.MemoryRuns.{frames_from}
use Rattle.busdma_machine.specs.Machine.Page.{FrameBytes}
use Rattle.busdma_machine.specs.Machine.PageList.{RoomyPages, page_addresses}
use Rattle.busdma_rules.specs.Memory.Memories.{virtual_of}
use Rattle.phys_memory.specs.Memory.{page_at, without_page}
use Rattle.memory_pages.specs.Bytes.{page_of, memory_pages_of}
use Rattle.memory_pages.specs.Placed.{Goes}
use Rattle.memory_pages.proofs.Going.{addresses_taken, left_placed, length-taken, next_gone, next_page}
use Rattle.memory_pages.proofs.Going.{none_gone, taken_more}
use Rattle.memory_pages.proofs.pages.take.Goals as goal

same_items : (r : RoomyPages) (xs : List FrameBytes) → r.items ≡ xs → r ≡ record r { items = xs }
same_items r xs e = ap (λ (ys : List FrameBytes). record r { items = ys }) e

pub loop-i-init : goal.loop-i-init
loop-i-init c = record {
  pages = same_items c.args.pages.now (c.args.pages.now.items ++ []) (sym (append-nil c.args.pages.now.items));
  goes = none_gone c.args.memory.now.memory c.args.first.0;
}

pub unwrap-page-requires : goal.unwrap-page-requires
unwrap-page-requires c =
    let at = ap (λ v. v.0) c.va_of-at.ensures ∙ ap (λ i. virtual_of (c.args.first.0 + 4096 * i)) c.from.ensures in
    subst IsSome (sym (c.remove.ensures.page ∙ ap (page_at c.loop-i.memory.memory) at
    ∙ next_page c.args.memory.now.memory c.loop-i.memory.memory c.args.first.0 c.args.count c.loop-i.i
    c.requires.whole c.loop-i-test.true c.requires.there c.loop-i.invariant.goes)) refl

only : {x y : FrameBytes} → Some x ≡ Some y → x ≡ y
only e = cc

-- a page was pushed after those that were taken
pushed : (now old : RoomyPages) (xs : List FrameBytes) (p q : FrameBytes) →
    now ≡ record old { items = old.items ++ xs } →
    p ≡ q → ◌≡◌ {A = RoomyPages} (record { items = now.items ++ p ∷ []; room = now.room })
    (record old { items = (old.items ++ xs) ++ q ∷ [] })
pushed now old xs p q e h =
    ap (λ (r : RoomyPages). record r { items = r.items ++ p ∷ [] }) e
    ∙ ap (λ x. record old { items = (old.items ++ xs) ++ x ∷ [] }) h

pub push_reserved-requires : goal.push_reserved-requires
push_reserved-requires c =
    let e = ap (λ (r : RoomyPages). length r.items) c.loop-i.invariant.pages
    ∙ length-taken c.args.memory.now.memory c.loop-i.i c.args.first.0 c.args.pages.now.items in
    let r = ap (λ (r : RoomyPages). r.room) c.loop-i.invariant.pages in
    omega (arith, e, r)

pub loop-i-preserved : goal.loop-i-preserved
loop-i-preserved c =
    let at = ap (λ v. v.0) c.va_of-at.ensures ∙ ap (λ i. virtual_of (c.args.first.0 + 4096 * i)) c.from.ensures in
    let taken = c.remove.ensures.page ∙ ap (page_at c.loop-i.memory.memory) at
    ∙ next_page c.args.memory.now.memory c.loop-i.memory.memory c.args.first.0 c.args.count c.loop-i.i
    c.requires.whole c.loop-i-test.true c.requires.there c.loop-i.invariant.goes in
    record {
      pages = c.push_reserved.ensures ∙ pushed (c.loop-i.pages) (c.args.pages.now)
          (memory_pages_of c.args.memory.now.memory
          (frames_from c.loop-i.i c.args.first.0)) c.unwrap-page.result (page_of c.args.memory.now.memory
          (c.args.first.0 + 4096 * c.loop-i.i)) c.loop-i.invariant.pages
          (only (sym c.unwrap-page.ensures ∙ taken))
          ∙ ap (λ (xs : List FrameBytes). record c.args.pages.now { items = xs })
          (taken_more c.args.memory.now.memory c.loop-i.i c.args.first.0 c.args.pages.now.items);
      goes = subst (λ m. Goes c.args.memory.now.memory m c.args.first.0 (c.loop-i.i + 1))
          (sym (c.remove.ensures.memory ∙ ap (without_page c.loop-i.memory.memory) at))
          (next_gone c.args.memory.now.memory c.loop-i.memory.memory c.args.first.0 c.args.count c.loop-i.i
          c.requires.whole c.loop-i-test.true c.requires.there c.loop-i.invariant.goes);
    }

pub returns-clause-addresses : goal.returns-clause-addresses
returns-clause-addresses c =
    let e : c.loop-i.i ≡ c.args.count = omega arith in
    ap (λ (r : RoomyPages). page_addresses r.items) c.loop-i.invariant.pages
    ∙ ap (λ i. page_addresses (c.args.pages.now.items
    ++ memory_pages_of c.args.memory.now.memory (frames_from i c.args.first.0))) e
    ∙ addresses_taken c.args.memory.now.memory c.args.count c.args.first.0 c.args.pages.now.items c.requires.whole

pub returns-clause-placed : goal.returns-clause-placed
returns-clause-placed c =
    left_placed c.args.memory.now.memory c.loop-i.memory.memory c.args.first.0 c.loop-i.i c.requires.whole
    c.loop-i.invariant.goes c.requires.placed
