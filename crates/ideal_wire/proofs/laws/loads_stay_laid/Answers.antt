use Rattle.ideal_wire.proofs.Laid.LaidTurns.{turn-laid}
use Rattle.ideal_wire.proofs.laws.loads_stay_laid.Goals as goal

pub returns : goal.returns
returns c = λ l s a stands agrees fit frames machine laid. turn-laid l a stands agrees fit frames machine laid s
