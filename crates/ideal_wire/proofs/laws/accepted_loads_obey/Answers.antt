use Rattle.ideal_wire.proofs.Obeys.AcceptedLaws.{finished-accepted}
use Rattle.ideal_wire.proofs.Obeys.AnsweredTurns.{turn-answers}
use Rattle.ideal_wire.proofs.Obeys.MemoryObeys.{memory-finished}
use Rattle.ideal_wire.proofs.laws.accepted_loads_obey.Goals as goal

pub returns-clause-load : goal.returns-clause-load
returns-clause-load c = λ l m o b load_at nowait items pages stands laid machine named there direct fine has.
    finished-accepted l laid machine stands m o there direct b named load_at nowait items fine pages has

pub returns-clause-memory : goal.returns-clause-memory
returns-clause-memory c = λ l m o y b load_at nowait items stands laid machine there memory fine.
    memory-finished l laid machine stands m o there y memory b load_at nowait items fine

pub returns-clause-turn : goal.returns-clause-turn
returns-clause-turn c = λ l s a stands agrees fit frames low served machine laid spaced.
    turn-answers l a stands agrees fit frames low served machine laid spaced s
