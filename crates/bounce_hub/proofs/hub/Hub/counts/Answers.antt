use Rattle.std.proofs.Common.{subst}
use Rattle.busdma_machine.specs.Bounce.History.{account_of}
use Rattle.bounce_hub.specs.Seen.{HubSeen, AreCounts, opening_of}
use Rattle.bounce_hub.proofs.Counting.{are-counts}
use Rattle.bounce_hub.proofs.hub.Hub.counts.Goals as goal

pub returns : goal.returns
returns c =
    subst (λ (h : HubSeen). AreCounts c.in_ok-counts.counts c.args.bounced.now (account_of h.opening h.history))
    c.self.view_is
    (are-counts c.self.inside.pool c.args.bounced.now
    (account_of (opening_of c.self.inside.first.value) c.self.inside.history.items)
    c.in_ok-counts.counts c.self.invariant.agrees c.in_ok-counts.ensures)
