use Rattle.ideal_wire.proofs.Apart.Pages.{granted-reachable, called-reachable}
use Rattle.ideal_wire.proofs.laws.given_pages_are_reached.Goals as goal

pub returns-clause-granted : goal.returns-clause-granted
returns-clause-granted c = λ t a m z need nowait pages low each serves e.
    granted-reachable t a low each z serves m need nowait pages e

pub returns-clause-called : goal.returns-clause-called
returns-clause-called c = called-reachable
