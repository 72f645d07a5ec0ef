use Rattle.std.proofs.Common.{ap, ◌∙◌, length, slice_get}
use Rattle.lane_core_tests.specs.Serving.{Serves}
use Rattle.lane_core_tests.proofs.Popping.{last-there}
use Rattle.lane_core_tests.proofs.tests.opened.open.Goals as goal

pub returns : goal.returns
unfolding Serves
returns g c =
    c.into_parts-lanes.ensures.served (length c.pop.new.self.items) c.in-Some.lane
    (ap (λ ls. slice_get ls (length c.pop.new.self.items)) c.in-Some.ensures.items
    ∙ last-there c.pop.new.self.items c.in-Some.lane)
