use Rattle.ideal_lane.proofs.Resent.{operation-once, resend-once}
use Rattle.ideal_lane.proofs.laws.no_send_has_a_third_load.Goals as goal

pub returns-clause-first : goal.returns-clause-first
returns-clause-first c = operation-once

pub returns-clause-again : goal.returns-clause-again
returns-clause-again c = resend-once
