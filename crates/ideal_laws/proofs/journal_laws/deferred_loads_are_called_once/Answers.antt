use Rattle.ideal_laws.proofs.Deferring.{called-few, waiting-few}
use Rattle.ideal_laws.proofs.journal_laws.deferred_loads_are_called_once.Goals as goal

pub returns-clause-called : goal.returns-clause-called
returns-clause-called c = λ s j first rest i m valid legal parts. called-few s i m j first rest valid legal parts

pub returns-clause-waiting : goal.returns-clause-waiting
returns-clause-waiting c = λ s j first rest i m valid legal parts. waiting-few s i m j first rest valid legal parts
