use Rattle.std.proofs.Common.{◌∙◌, ap}
use Rattle.ideal_lane.specs.Turns.{is_waiting, waits_in}
use Rattle.ideal_lane.proofs.TurnLaws.{callback-waits}
use Rattle.ideal_lane.proofs.laws.each_callback_was_awaited.Goals as goal

pub returns : goal.returns
returns c = λ l a m pages fit agrees reply.
    let w = callback-waits l a m pages fit agrees reply in ap is_waiting w.2.found ∙ ap waits_in w.2.stage
