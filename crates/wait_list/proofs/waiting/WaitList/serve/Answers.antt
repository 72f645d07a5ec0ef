use Rattle.std.proofs.Common.{◌≡◌, ℕ, ◌+◌, ◌-◌, ◌<◌, List, [], ◌∷◌, ◌++◌, map, length, sym, ap, ◌∙◌, arith}
use Rattle.std.proofs.Common.{append_assoc}
use Rattle.std.specs.List.{All, sum_by}
use Rattle.std.proofs.lemmas.List.Elements.{All-cons, All-head, All-tail, All-same}
use Rattle.std.proofs.lemmas.List.Sums.{sum_by-cons}
use Rattle.busdma_machine.specs.declared.bounce.zone.Waiter.{Waiter}
use Rattle.busdma_machine.specs.Bounce.Serving.{completed, left_waiting}
use Rattle.wait_list.specs.declared.deferred.Deferred.{Deferred}
use Rattle.wait_list.specs.Ready.{Ready}
use Rattle.wait_list.specs.Reserved.{IsReserved, IsWaiting}
use Rattle.wait_list.proofs.Completed.{complete, left-head, completed-head}
use Rattle.wait_list.proofs.waiting.WaitList.serve.Goals as goal

pub invariant_of-self : goal.invariant_of-self
invariant_of-self c =
    let load : Deferred = c.in-Some.load in
    let rest : List Deferred = c.pop_front.new.self.items in
    let all : All IsWaiting (load ∷ rest) =
    All-same IsWaiting _ _ (sym c.in-Some.ensures.items) c.loop-load.invariant.waiting in
    let here : IsWaiting load = All-head IsWaiting load rest all in
    let more : Deferred =
    record load { waiter = record load.waiter { have = load.waiter.have + c.loop-load.pages } } in
    let lacks : load.waiter.have + c.loop-load.pages < load.waiter.need =
    omega (arith, here.lacks, c.saturating_sub-lack.ensures, c.if-lack-pages.true) in
    let reserved : IsReserved more =
    record {
      no_page = here.reserved.no_page;
      page_room = here.reserved.page_room;
      no_address = here.reserved.no_address;
      address_room = here.reserved.address_room;
    } in
    All-same IsWaiting _ _ c.push_front_reserved.ensures.items
    (All-cons IsWaiting more rest (record { reserved = reserved; lacks = lacks })
    (All-tail IsWaiting load rest all))

pub loop-load-preserved : goal.loop-load-preserved
loop-load-preserved c =
    let load : Deferred = c.in-Some.load in
    let w : Waiter = load.waiter in
    let rest : List Deferred = c.pop_front.new.self.items in
    let before : List Waiter = map (λ d. d.waiter) c.loop-load.self-inside.kept.items in
    let behind : List Waiter = map (λ d. d.waiter) rest in
    let pages : ℕ = c.loop-load.pages in
    let lack : ℕ = c.saturating_sub-lack.result in
    let inv = c.loop-load.invariant in
    let split : c.loop-load.self-inside.kept.items ≡ load ∷ rest = c.in-Some.ensures.items in
    let all : All IsWaiting (load ∷ rest) = All-same IsWaiting _ _ (sym split) inv.waiting in
    let here : IsWaiting load = All-head IsWaiting load rest all in
    let waiters : before ≡ w ∷ behind = ap (map (λ d. d.waiter)) split in
    let left : left_waiting pages before ≡ left_waiting (pages - lack) behind =
    ap (left_waiting pages) waiters
    ∙ left-head pages lack w behind c.saturating_sub-lack.ensures c.if-lack-pages.false in
    let done : completed pages before ≡ complete w ∷ completed (pages - lack) behind =
    ap (completed pages) waiters
    ∙ completed-head pages lack w behind c.saturating_sub-lack.ensures c.if-lack-pages.false in
    let long : length c.loop-load.self-inside.kept.items ≡ length rest + 1 = ap length split ∙ omega arith in
    let spare : c.push.new.self.spare ≡ c.loop-load.ready.spare - 1 = ap (λ (r : Ready). r.spare) c.push.ensures in
    let had : sum_by (λ (v : Waiter). v.have) before ≡ w.have + sum_by (λ (v : Waiter). v.have) behind =
    ap (sum_by (λ (v : Waiter). v.have)) waiters ∙ sum_by-cons (λ (v : Waiter). v.have) w behind in
    let needed : sum_by (λ (v : Waiter). v.need) (completed pages before) ≡ w.need
    + sum_by (λ (v : Waiter). v.need) (completed (pages - lack) behind) =
    ap (sum_by (λ (v : Waiter). v.need)) done
    ∙ sum_by-cons (λ (v : Waiter). v.need) (complete w) (completed (pages - lack) behind) in
    record {
      left = sym left ∙ inv.left;
      done = ap (λ (r : Ready). r.items ++ completed (pages - lack) behind) c.push.ensures
          ∙ append_assoc c.loop-load.ready.items (complete w ∷ []) (completed (pages - lack) behind)
          ∙ ap (λ ws. c.loop-load.ready.items ++ ws) (sym done) ∙ inv.done;
      count = omega (arith, inv.count, ap length done);
      given =
          omega (
            arith,
            inv.given,
            inv.below,
            had,
            needed,
            here.lacks,
            c.saturating_sub-lack.ensures,
            c.if-lack-pages.false,
          );
      below = omega (arith, inv.below);
      few = omega (arith, inv.few, here.lacks, c.saturating_sub-lack.ensures, c.if-lack-pages.false);
      spare = omega (arith, long, spare, inv.seen, inv.spare);
      seen = omega (arith, long, inv.seen);
      waiting = All-tail IsWaiting load rest all;
    }
