use Rattle.std.proofs.Common.{◌≡◌, ◌∙◌, length, subst}
use Rattle.busdma_machine.specs.Bounce.History.{account_of}
use Rattle.bounce_hub.specs.Seen.{HubSeen}
use Rattle.bounce_hub.proofs.hub.Hub.zone_count.Goals as goal

pub returns : goal.returns
returns c =
    subst (λ (h : HubSeen). c.len.result ≡ length (account_of h.opening h.history).zones) c.self.view_is
    (c.len.ensures ∙ c.self.inside.pool.zones.ok.0 ∙ c.self.invariant.agrees.count)
