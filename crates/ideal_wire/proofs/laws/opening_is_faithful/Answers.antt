use Rattle.ideal_wire.proofs.Faithful.Openings.{opens-faithful, opens-laid}
use Rattle.ideal_wire.proofs.laws.opening_is_faithful.Goals as goal

pub returns-clause-faithful : goal.returns-clause-faithful
returns-clause-faithful c = opens-faithful

pub returns-clause-laid : goal.returns-clause-laid
returns-clause-laid c = opens-laid
