use Rattle.std.proofs.Common.{sym, subst}
use Rattle.bounce_hub.specs.Seen.{HubSeen}
use Rattle.lane_threads.specs.Closing.{ClosesAfter}
use Rattle.lane_threads.proofs.ClosingLaws.{closed}
use Rattle.lane_threads.proofs.closing.close_after.Goals as goal

pub returns : goal.returns
returns g c =
    subst (λ (hub : HubSeen). ClosesAfter c.args.first c.args.passes.items hub) (sym c.into_hub.ensures)
    (closed c.args.first c.join_all-all.result c.args.passes.items c.close.result
    c.join_all-all.ensures c.close.ensures)
