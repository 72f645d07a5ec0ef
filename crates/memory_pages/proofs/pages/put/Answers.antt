use Rattle.std.proofs.Common.{◌≡◌, ℕ, ◌*◌, List, ◌∷◌, length, ap, sym, ◌∙◌, subst}
use Rattle.std.proofs.Common.{Bool, ◌-◌, rules}
use Rattle.std.specs.Vec.Iter.{into_iter_items}
use Rattle.busdma_machine.specs.Machine.Page.{FrameBytes}
use Rattle.busdma_machine.specs.Machine.Wire.{with_bytes_of}
use Rattle.busdma_rules.specs.Memory.Memories.{virtual_of}
use Rattle.phys_memory.specs.Memory.{FrameMemory, wire, with_page}
use Rattle.memory_pages.specs.Bytes.{all_filled, filled}
use Rattle.memory_pages.proofs.Coming.{IsPart, IsWhole, all_put, next_fresh, next_put, no_row, others_stay}
use Rattle.memory_pages.proofs.Coming.{still_placed, zeros_come}
use Rattle.memory_pages.proofs.Reaching.{come_reached}
use Rattle.memory_pages.proofs.pages.put.Goals as goal

-- there is a page that is left
some_left : (old new : FrameMemory) (first len : ℕ) (clear : Bool) (all rest : List FrameBytes) (left spare : ℕ)
    (p : FrameBytes) (ps : List FrameBytes) → rest ≡ p ∷ ps →
    IsPart old new first len clear all rest left spare → IsPart old new first len clear all (p ∷ ps) left spare
some_left old new first len clear all rest left spare p ps e part =
    subst (λ qs. IsPart old new first len clear all qs left spare) e part

pub put_page-requires-clause-fresh : goal.put_page-requires-clause-fresh
put_page-requires-clause-fresh c =
    next_fresh c.args.memory.now.memory c.loop-page.memory.memory c.args.first.0 c.args.len c.args.clear
    c.args.pages.items c.in-Some.page (into_iter_items c.next.new.self) c.loop-page.left c.loop-page.memory.spare
    (some_left c.args.memory.now.memory c.loop-page.memory.memory c.args.first.0 c.args.len c.args.clear
    c.args.pages.items (into_iter_items c.loop-page.page-iterator) c.loop-page.left c.loop-page.memory.spare
    c.in-Some.page (into_iter_items c.next.new.self) c.in-Some.ensures.steps.0 c.loop-page.invariant.part)
    c.requires.without

pub put_page-requires-clause-placed : goal.put_page-requires-clause-placed
put_page-requires-clause-placed c =
    let part = c.loop-page.invariant.part in
    still_placed c.args.memory.now.memory c.loop-page.memory.memory c.args.first.0 part.done c.args.len
    part.whole part.comes c.requires.placed

pub loop-page-preserved : goal.loop-page-preserved
loop-page-preserved c = record {
  can_next = tt;
  is_finite = tt;
  part =
      let part = some_left c.args.memory.now.memory c.loop-page.memory.memory c.args.first.0 c.args.len c.args.clear
      c.args.pages.items (into_iter_items c.loop-page.page-iterator) c.loop-page.left c.loop-page.memory.spare
      c.in-Some.page (into_iter_items c.next.new.self) c.in-Some.ensures.steps.0 c.loop-page.invariant.part in
      let put = next_put c.args.memory.now.memory c.loop-page.memory.memory c.args.first.0 c.args.len c.args.clear
      c.args.pages.items c.in-Some.page (into_iter_items c.next.new.self) c.loop-page.left c.loop-page.memory.spare
      part c.put_page.ensures.frame c.put_page.new.memory.spare c.put_page.ensures.spare in
      let after : FrameMemory → ℕ → Type 0 = λ m r. IsPart c.args.memory.now.memory m c.args.first.0 c.args.len
      c.args.clear
      c.args.pages.items (into_iter_items c.next.new.self) (c.loop-page.left - r) c.put_page.new.memory.spare in
      let here : ℕ → FrameMemory = λ r. with_page c.loop-page.memory.memory (virtual_of (4096 * c.in-Some.page.frame))
      (filled c.args.clear c.in-Some.page) r in
      subst (λ m. after m c.min-reach.result) (sym c.put_page.ensures.memory)
      (subst (λ r. after (here r) r) (sym c.min-reach.ensures) put);
}

-- all pages were put
whole : (c : goal.After-drop-page-iterator) → IsWhole c.args.memory.now.memory c.loop-page.memory.memory c.args.first.0
    c.args.len c.args.clear c.args.pages.items
whole c =
    all_put c.args.memory.now.memory c.loop-page.memory.memory c.args.first.0 c.args.len c.args.clear c.args.pages.items
    (into_iter_items c.loop-page.page-iterator) c.loop-page.left c.loop-page.memory.spare c.loop-page.invariant.part
    (search rules)

pub returns-clause-reached : goal.returns-clause-reached
returns-clause-reached c =
    let is = whole c in
    λ va. come_reached c.args.first.0 (length c.args.pages.items) is.whole is.below c.args.memory.now.memory
    c.loop-page.memory.memory c.args.len va c.requires.all is.comes
    (λ v h. no_row c.args.memory.now.memory c.args.first.0 (length c.args.pages.items) v is.whole c.requires.placed
    c.requires.without h)

pub returns-clause-others : goal.returns-clause-others
returns-clause-others c = λ a h. (whole c).bytes a
    ∙ others_stay c.args.clear c.args.pages.items c.args.first.0 (wire c.args.memory.now.memory) a c.requires.row h

pub returns-clause-zeros : goal.returns-clause-zeros
returns-clause-zeros c = λ e a h. (whole c).bytes a
    ∙ ap (λ b. with_bytes_of (all_filled b c.args.pages.items) (wire c.args.memory.now.memory) a) e
    ∙ zeros_come c.args.pages.items c.args.first.0 (wire c.args.memory.now.memory) a c.requires.row h

pub returns-clause-placed : goal.returns-clause-placed
returns-clause-placed c =
    let is = whole c in
    still_placed c.args.memory.now.memory c.loop-page.memory.memory c.args.first.0 (length c.args.pages.items)
    c.args.len is.whole is.comes c.requires.placed
