use Rattle.ideal_laws.proofs.Landing.{named-range}
use Rattle.ideal_laws.proofs.wire_laws.named_ranges_are_found.Goals as goal

pub returns : goal.returns
returns c = λ l m o addr len at laid there direct found. named-range l laid m o addr len at there direct found
