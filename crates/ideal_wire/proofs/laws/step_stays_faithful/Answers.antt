use Rattle.ideal_wire.proofs.Faithful.Turns.{turn-stays}
use Rattle.ideal_wire.proofs.laws.step_stays_faithful.Goals as goal

pub returns : goal.returns
returns c = λ l s a r w w' stands agrees laid spaced mapped f.
    turn-stays l a w stands agrees laid spaced mapped f s r w'
