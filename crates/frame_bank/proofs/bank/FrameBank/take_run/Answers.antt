use Rattle.std.proofs.Common.{◌≡◌, ◌+◌, ◌-◌, ◌^◌, ◌<◌, ◌++◌, length, take, drop, get_or, not, Some, option_map, sym}
use Rattle.std.proofs.Common.{ap, subst, ◌∙◌, arith}
use Rattle.std.specs.List.{filter}
use Rattle.std.specs.VecDeque.{deque_len}
use Rattle.std.proofs.lemmas.List.{length-drop}
use Rattle.std.proofs.lemmas.List.Elements.{All-same, All-append, All-take, All-drop}
use Rattle.busdma_machine.specs.Machine.PageList.{page_addresses}
use Rattle.busdma_machine.specs.Bounce.History.{IsRising}
use Rattle.busdma_machine.specs.Bounce.MemoryRuns.{frames_for, frames_from, lowest_run, in_run}
use Rattle.frame_bank.specs.FrameBank.{Bank, free_frames, is_in_bank_run}
use Rattle.frame_bank.specs.FrameBank.{run_frames, frames_left, run_pages, pages_left}
use Rattle.frame_bank.proofs.Rising.{rising_pages, rising_addresses}
use Rattle.frame_bank.proofs.Taking.{TakenAt, begun_at, turned_back, rising_without}
use Rattle.frame_bank.proofs.Taking.{filter-page_addresses}
use Rattle.frame_bank.proofs.bank.FrameBank.take_run.Goals as goal

pub pages_at-requires : goal.pages_at-requires
pages_at-requires c =
    let t =
    begun_at c.args.len c.args.boundary c.args.limit.0 c.in-Some.at c.self.inside.free.items
    c.self.invariant.0.rising c.in-Some.ensures.0 c.in-Some.ensures.1 in
    omega (arith, t.inside, c.frames_for-count.ensures)

pub rotate_right-requires : goal.rotate_right-requires
rotate_right-requires c =
    let t =
    begun_at c.args.len c.args.boundary c.args.limit.0 c.in-Some.at c.self.inside.free.items
    c.self.invariant.0.rising c.in-Some.ensures.0 c.in-Some.ensures.1 in
    omega (
      arith,
      t.inside,
      c.frames_for-count.ensures,
      c.rotate_left.ensures.len,
      ap length c.drop_first.ensures.left,
      length-drop c.frames_for-count.result c.rotate_left.new.self.items,
    )

at_run : (c : goal.After-rotate_right) → TakenAt (get_or (page_addresses c.self.inside.free.items) c.in-Some.at 0)
    (frames_for c.args.len) c.in-Some.at c.self.inside.free.items
at_run c =
    begun_at c.args.len c.args.boundary c.args.limit.0 c.in-Some.at c.self.inside.free.items
    c.self.invariant.0.rising c.in-Some.ensures.0 c.in-Some.ensures.1

-- the pages that were taken, and the pages that stay
part : (c : goal.After-rotate_right) → c.in_ok-pages.pages.items
    ≡ take (frames_for c.args.len) (drop c.in-Some.at c.self.inside.free.items)
part c = c.in_ok-pages.ensures
    ∙ ap (λ n. take n (drop c.in-Some.at c.self.inside.free.items)) c.frames_for-count.ensures

rest : (c : goal.After-rotate_right) → c.rotate_right.new.self.items ≡ take c.in-Some.at c.self.inside.free.items
    ++ drop (c.in-Some.at + frames_for c.args.len) c.self.inside.free.items
rest c =
    let items = c.self.inside.free.items in
    let count = c.frames_for-count.result in
    let at = c.in-Some.at in
    let queue = c.drop_first.new.free.items in
    let long : deque_len c.drop_first.new.free ≡ length queue = omega arith in
    c.rotate_right.ensures.items
    ∙ ap (λ k. drop (k - at) queue ++ take (k - at) queue) long
    ∙ turned_back items queue at count (omega (arith, (at_run c).inside, c.frames_for-count.ensures))
    (c.drop_first.ensures.left ∙ ap (drop count) c.rotate_left.ensures.items)
    ∙ ap (λ n. take at items ++ drop (at + n) items) c.frames_for-count.ensures

pub invariant_of-self : goal.invariant_of-self
invariant_of-self c = (
  record {
    rising =
        subst (λ ps. IsRising (page_addresses ps)) (sym (rest c))
        (rising_addresses _ (rising_without c.self.inside.free.items c.in-Some.at
        (c.in-Some.at + frames_for c.args.len) (omega arith)
        (rising_pages c.self.inside.free.items c.self.invariant.0.rising)));
    numbered =
        All-same (λ p. p.frame < 2 ^ 30) _ _ (rest c)
        (All-append (λ p. p.frame < 2 ^ 30) _ _
        (All-take (λ p. p.frame < 2 ^ 30) c.in-Some.at c.self.inside.free.items c.self.invariant.0.numbered)
        (All-drop (λ p. p.frame < 2 ^ 30) (c.in-Some.at + frames_for c.args.len)
        c.self.inside.free.items c.self.invariant.0.numbered));
    roomy =
        omega (
          arith,
          ap length c.drop_first.ensures.left,
          length-drop c.frames_for-count.result c.rotate_left.new.self.items,
          c.rotate_left.ensures.len,
          c.rotate_right.ensures.len,
        );
    few = c.self.invariant.0.few;
  },
  omega arith,
)

lowest : (c : goal.After-rotate_right) → lowest_run c.args.len c.args.boundary c.args.limit.0
    (free_frames c.args.self.now) ≡ Some (get_or (page_addresses c.self.inside.free.items) c.in-Some.at 0)
lowest c = ap (λ (b : Bank). lowest_run c.args.len c.args.boundary c.args.limit.0 (free_frames b)) (sym c.self.view_is)
    ∙ c.in-Some.ensures.2

pub returns-clause-pages : goal.returns-clause-pages
returns-clause-pages c =
    ap (λ ps. Some ps) (part c ∙ sym (at_run c).run
    ∙ ap
    (λ (b : Bank). filter (is_in_bank_run (get_or (page_addresses c.self.inside.free.items) c.in-Some.at 0)
    (frames_for c.args.len)) b.pages) c.self.view_is)
    ∙ ap (λ r. run_pages r (frames_for c.args.len) c.args.self.now.pages) (sym (lowest c))

pub returns-clause-placed : goal.returns-clause-placed
returns-clause-placed c =
    ap (λ ps. Some (page_addresses ps)) (part c)
    ∙ ap (λ fs. Some fs) (at_run c).placed
    ∙ ap (option_map (frames_from (frames_for c.args.len))) (sym (lowest c))

pub returns-clause-left : goal.returns-clause-left
returns-clause-left c =
    rest c ∙ sym (at_run c).left
    ∙ ap
    (λ (b : Bank). filter
    (λ p. not (is_in_bank_run (get_or (page_addresses c.self.inside.free.items) c.in-Some.at 0)
    (frames_for c.args.len) p)) b.pages) c.self.view_is
    ∙ ap (λ r. pages_left r (frames_for c.args.len) c.args.self.now.pages) (sym (lowest c))

-- the addresses of the pages that were taken, from what is said of the pages
pub returns-clause-frames : goal.returns-clause-frames
returns-clause-frames c =
    let items = c.self.inside.free.items in
    let first = get_or (page_addresses items) c.in-Some.at 0 in
    ap (λ ps. Some (page_addresses ps)) (part c ∙ sym (at_run c).run)
    ∙ ap (λ fs. Some fs) (sym (filter-page_addresses (in_run first (frames_for c.args.len)) items))
    ∙ ap (λ (b : Bank). Some (filter (in_run first (frames_for c.args.len)) (free_frames b))) c.self.view_is
    ∙ ap (λ r. run_frames r (frames_for c.args.len) (free_frames c.args.self.now)) (sym (lowest c))

pub returns-clause-free : goal.returns-clause-free
returns-clause-free c =
    let items = c.self.inside.free.items in
    let first = get_or (page_addresses items) c.in-Some.at 0 in
    ap page_addresses (rest c ∙ sym (at_run c).left)
    ∙ sym (filter-page_addresses (λ f. not (in_run first (frames_for c.args.len) f)) items)
    ∙ ap (λ (b : Bank). filter (λ f. not (in_run first (frames_for c.args.len) f)) (free_frames b)) c.self.view_is
    ∙ ap (λ r. frames_left r (frames_for c.args.len) (free_frames c.args.self.now)) (sym (lowest c))
