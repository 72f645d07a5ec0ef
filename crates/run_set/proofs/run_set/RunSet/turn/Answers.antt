use Rattle.std.proofs.Common.{◌^◌, sym, ap, ◌∙◌}
use Rattle.run_set.specs.Edges.{odd}
use Rattle.run_set.proofs.Sets.{rises_climbs, member-count_le}
use Rattle.run_set.proofs.run_set.RunSet.turn.Goals as goal

pub turn-requires-clause-climbs : goal.turn-requires-clause-climbs
turn-requires-clause-climbs c = rises_climbs 0 (2 ^ 64) _ c.self.invariant.rise

pub returns-clause-same : goal.returns-clause-same
returns-clause-same c =
    rw (← c.self.view_is) (λ n p q. member-count_le _ n ∙ ap odd (c.turn.ensures.none n p q)
    ∙ sym (member-count_le _ c.args.start))
