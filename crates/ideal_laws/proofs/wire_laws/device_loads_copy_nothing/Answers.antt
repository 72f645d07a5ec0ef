use Rattle.ideal_laws.proofs.Unbounced.{none-counted, synced-stays}
use Rattle.ideal_laws.proofs.wire_laws.device_loads_copy_nothing.Goals as goal

pub returns-clause-wire : goal.returns-clause-wire
returns-clause-wire c = λ l m off len ops o w stands laid there device. synced-stays l stands laid m o there device off
    len ops w

pub returns-clause-counted : goal.returns-clause-counted
returns-clause-counted c = λ l m off len ops o stands laid there device. none-counted l stands laid m o there device off
    len ops
