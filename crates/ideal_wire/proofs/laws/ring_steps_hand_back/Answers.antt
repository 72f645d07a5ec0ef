use Rattle.ideal_wire.proofs.Faithful.RingBytes.{ring-hands-back}
use Rattle.ideal_wire.proofs.laws.ring_steps_hand_back.Goals as goal

pub returns : goal.returns
returns c = λ l k stands laid. ring-hands-back l stands laid k
