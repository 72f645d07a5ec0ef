use Rattle.std.proofs.Common.{◌^◌, sym, ap, ◌∙◌}
use Rattle.run_set.specs.Edges.{odd}
use Rattle.run_set.proofs.Sets.{rises_climbs, member-count_le}
use Rattle.run_set.proofs.run_set.RunSet.run_at.Goals as goal

pub count_and_turn-count-requires-clause-climbs : goal.count_and_turn-count-requires-clause-climbs
count_and_turn-count-requires-clause-climbs c = rises_climbs 0 (2 ^ 64) _ c.self.invariant.rise

pub returns-clause-is_in : goal.returns-clause-is_in
returns-clause-is_in c =
    rw (← c.self.view_is) (c.is_odd.ensures ∙ ap odd c.count_and_turn-count.ensures.count
    ∙ sym (member-count_le _ c.args.start))

pub returns-clause-same : goal.returns-clause-same
returns-clause-same c =
    rw (← c.self.view_is) (λ n p q. member-count_le _ n ∙ ap odd (c.count_and_turn-count.ensures.none n p q)
    ∙ sym (member-count_le _ c.args.start))
