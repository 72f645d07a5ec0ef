use Rattle.std.proofs.Common.{◌≡◌, ◌∙◌, Some, ap, length, slice_get, subst, sym}
use Rattle.bounce_hub.specs.Seen.{door}
use Rattle.ideal_lane.proofs.ScriptedRuns.{found-behind}
use Rattle.lane_state.specs.Served.{IsServed}
use Rattle.bus_dma_tests.proofs.tests.opened.open.Goals as goal

pub returns : goal.returns
returns g c =
    let rest = c.pop.new.self.items in
    let last : slice_get c.into_parts-lanes.result.0.items (length rest) ≡ Some c.in-Some.lane =
    ap (λ lanes. slice_get lanes (length rest)) c.in-Some.ensures.items ∙ found-behind rest c.in-Some.lane in
    subst (λ l. IsServed l (door c.into_parts-lanes.result.1)) (sym c.new-2.ensures)
    (c.into_parts-lanes.ensures.served (length rest) c.in-Some.lane last)
