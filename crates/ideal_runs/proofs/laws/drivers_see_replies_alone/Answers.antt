use Rattle.ideal_runs.proofs.Sides.{runs-agree}
use Rattle.ideal_runs.proofs.laws.drivers_see_replies_alone.Goals as goal

pub returns : goal.returns
returns c = λ l log other hs ks m n r q sides replies.
    let x = runs-agree log other hs ks l m n r q sides replies in (x.steps, x.calls, x.last)
