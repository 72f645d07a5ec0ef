use Rattle.std.proofs.Common.{◌^◌, ◌≡◌, ◌<◌, ◌≤◌, not, get_or, sym, ap, subst, ◌∙◌, arith}
use Rattle.run_set.specs.Edges.{odd}
use Rattle.run_set.proofs.Sets.{at_start, until_turn, at_turn, rises_climbs, to_below, to_above, same_answer}
use Rattle.run_set.proofs.Sets.{other_answer, not_not}
use Rattle.run_set.proofs.run_set.RunSet.first.Goals as goal

pub count_to-count-requires : goal.count_to-count-requires
count_to-count-requires c = rises_climbs 0 (2 ^ 64) _ c.self.invariant.rise

pub returns-then-is_odd-is_in : goal.returns-then-is_odd-is_in
returns-then-is_odd-is_in c =
    let is = at_start c.count_to-count.result c.args.start c.args.end (2 ^ 64) c.self.inside.edges.items
    c.count_to-count.ensures.small
    (to_below c.self.inside.edges.items c.count_to-count.result c.args.start (2 ^ 64) c.self.invariant.rise
    c.count_to-count.ensures.below)
    (to_above c.self.inside.edges.items c.count_to-count.result c.args.start (2 ^ 64) (omega arith)
    c.self.invariant.rise c.count_to-count.ensures.above) in (
      omega arith,
      omega arith,
      rw (← c.self.view_is) (is ∙ sym c.is_odd.ensures
          ∙ same_answer _ _ c.if-is_odd-is_in.true),
      λ n p q. absurd (omega arith),
    )

pub returns-then-turn-end : goal.returns-then-turn-end
returns-then-turn-end c =
    let e = c.number_or-turn.ensures in
    let at = at_turn c.count_to-count.result c.args.start c.args.end (2 ^ 64) c.self.inside.edges.items
    c.count_to-count.ensures.small
    (to_below c.self.inside.edges.items c.count_to-count.result c.args.start (2 ^ 64) c.self.invariant.rise
    c.count_to-count.ensures.below) (to_above c.self.inside.edges.items c.count_to-count.result c.args.start (2 ^ 64)
    (omega arith)
    c.self.invariant.rise c.count_to-count.ensures.above)
    (subst (λ f. f < c.args.end) e c.if-turn-end.true) in
    let until = until_turn c.count_to-count.result c.args.start c.args.end (2 ^ 64) c.self.inside.edges.items
    c.count_to-count.ensures.small
    (to_below c.self.inside.edges.items c.count_to-count.result c.args.start (2 ^ 64) c.self.invariant.rise
    c.count_to-count.ensures.below)
    (to_above c.self.inside.edges.items c.count_to-count.result c.args.start (2 ^ 64) (omega arith)
    c.self.invariant.rise c.count_to-count.ensures.above) in
    let other : not (odd c.count_to-count.result) ≡ c.args.is_in =
    ap not (sym c.is_odd.ensures) ∙ other_answer _ _ c.if-is_odd-is_in.false in
    rw (← c.self.view_is, e) (
      omega arith,
      subst (λ f. f < c.args.end) e c.if-turn-end.true,
      at.1
          ∙ other,
      λ n p q. until n p q ∙ sym (not_not _) ∙ ap not other,
    )

pub returns-else-turn-end : goal.returns-else-turn-end
returns-else-turn-end c =
    let e = c.number_or-turn.ensures in
    let until = until_turn c.count_to-count.result c.args.start c.args.end (2 ^ 64) c.self.inside.edges.items
    c.count_to-count.ensures.small
    (to_below c.self.inside.edges.items c.count_to-count.result c.args.start (2 ^ 64) c.self.invariant.rise
    c.count_to-count.ensures.below)
    (to_above c.self.inside.edges.items c.count_to-count.result c.args.start (2 ^ 64) (omega arith)
    c.self.invariant.rise c.count_to-count.ensures.above) in
    let other : not (odd c.count_to-count.result) ≡ c.args.is_in =
    ap not (sym c.is_odd.ensures) ∙ other_answer _ _ c.if-is_odd-is_in.false in
    let t : c.args.end ≤ get_or c.self.inside.edges.items c.count_to-count.result c.args.end =
    subst (λ f. c.args.end ≤ f) e c.if-turn-end.false in
    rw (← c.self.view_is) (λ n p q. until n p (omega arith) ∙ sym (not_not _) ∙ ap not other)
