use Rattle.std.proofs.Common.{◌≡◌, ◌∙◌, ap, slice_get, subst}
use Rattle.busdma_machine.specs.Bounce.History.{account_of}
use Rattle.bounce_hub.specs.Seen.{HubSeen}
use Rattle.bounce_hub.proofs.hub.Hub.first_callback.Goals as goal

pub returns : goal.returns
returns c =
    subst (λ (h : HubSeen). c.head.result ≡ slice_get (account_of h.opening h.history).ready 0) c.self.view_is
    (c.head.ensures ∙ ap (λ ws. slice_get ws 0) c.self.invariant.agrees.ready)
