use Rattle.ideal_world.proofs.Isolation.{finding, one-holder, own-finding}
use Rattle.ideal_world.proofs.laws.drivers_are_isolated.Goals as goal

pub returns-clause-once : goal.returns-clause-once
returns-clause-once c = λ s w i j l k by other byte well there too h g.
    one-holder s w well i j l k there too by other byte h g

pub returns-clause-found : goal.returns-clause-found
returns-clause-found c = λ s w i l m o n bus well there at place. finding s w well i l there m o at n bus place

pub returns-clause-own : goal.returns-clause-own
returns-clause-own c = λ s w i j l k m o n bus byte other well there too at place found h.
    own-finding s w well i j l k there too m o at n bus byte other place found h
