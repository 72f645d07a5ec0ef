use Rattle.driver_laws.proofs.Loading.{called-load, has-load}
use Rattle.driver_laws.proofs.Naming.{load-named}
use Rattle.driver_laws.proofs.step_laws.segments_name_the_load.Goals as goal

pub returns-clause-load : goal.returns-clause-load
returns-clause-load c = λ l n m flags x items segments laid mapped s. load-named n m segments laid mapped
    (has-load l n m flags x items segments s)

pub returns-clause-called : goal.returns-clause-called
returns-clause-called c = λ l n m pages o w segments laid mapped there stage s.
    load-named n m.made_at segments laid mapped
    (called-load l n m pages o w segments there stage s)
