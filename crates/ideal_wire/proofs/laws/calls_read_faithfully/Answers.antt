use Rattle.ideal_wire.proofs.Faithful.FaithfulRings.{head-reads, ring-reads}
use Rattle.ideal_wire.proofs.Faithful.Wiring.{cpu_read-reads, dev_read-reads, dev_read_at-reads}
use Rattle.ideal_wire.proofs.laws.calls_read_faithfully.Goals as goal

pub returns-clause-cpu : goal.returns-clause-cpu
returns-clause-cpu c = λ l w place len apart laid f. cpu_read-reads l w apart laid f place len

pub returns-clause-dev : goal.returns-clause-dev
returns-clause-dev c = λ l w m off len apart laid f. dev_read-reads l w apart laid f m off len

pub returns-clause-dev_at : goal.returns-clause-dev_at
returns-clause-dev_at c = λ l w t addr len apart stands laid spaced mapped f.
    dev_read_at-reads l w apart laid f
    (record { stands = stands; laid = laid; spaced = spaced; mapped = mapped }) t addr len

pub returns-clause-head : goal.returns-clause-head
returns-clause-head c = λ l w r apart laid f fine. head-reads l w apart laid f r fine

pub returns-clause-ring : goal.returns-clause-ring
returns-clause-ring c = λ l w k apart laid f. ring-reads l w apart laid f k
