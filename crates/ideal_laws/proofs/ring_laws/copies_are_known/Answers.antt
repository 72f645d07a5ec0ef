use Rattle.ideal_laws.proofs.Knowing.{resend-copies, ring-leaves}
use Rattle.ideal_laws.proofs.ring_laws.copies_are_known.Goals as goal

pub returns-clause-rings : goal.returns-clause-rings
returns-clause-rings c = λ l k stands laid. ring-leaves l laid k stands

pub returns-clause-sends : goal.returns-clause-sends
returns-clause-sends c = resend-copies
