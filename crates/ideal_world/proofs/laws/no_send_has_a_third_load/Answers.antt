use Rattle.ideal_world.proofs.Calling.{loaded-at-most-once, resent-at-most-once}
use Rattle.ideal_world.proofs.laws.no_send_has_a_third_load.Goals as goal

pub returns-clause-first : goal.returns-clause-first
returns-clause-first c = loaded-at-most-once

pub returns-clause-again : goal.returns-clause-again
returns-clause-again c = resent-at-most-once
