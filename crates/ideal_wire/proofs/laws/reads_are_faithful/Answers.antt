use Rattle.ideal_wire.proofs.Faithful.FaithfulRings.{head-reads, ring-reads}
use Rattle.ideal_wire.proofs.Apart.Frames.{agreeing-apart}
use Rattle.ideal_wire.proofs.Faithful.Wiring.{cpu_read-reads, dev_read-reads, dev_read_at-reads}
use Rattle.ideal_wire.proofs.laws.reads_are_faithful.Goals as goal

pub returns-clause-cpu : goal.returns-clause-cpu
returns-clause-cpu c = λ l a w place len stands agrees laid f.
    cpu_read-reads l w (agreeing-apart l a agrees stands laid) laid f place len

pub returns-clause-dev : goal.returns-clause-dev
returns-clause-dev c = λ l a w m off len stands agrees laid f.
    dev_read-reads l w (agreeing-apart l a agrees stands laid) laid f m off len

pub returns-clause-dev_at : goal.returns-clause-dev_at
returns-clause-dev_at c = λ l a w t addr len stands agrees laid spaced mapped f.
    dev_read_at-reads l w (agreeing-apart l a agrees stands laid) laid f
    (record { stands = stands; laid = laid; spaced = spaced; mapped = mapped }) t addr len

pub returns-clause-head : goal.returns-clause-head
returns-clause-head c = λ l a w r stands agrees laid f fine.
    head-reads l w (agreeing-apart l a agrees stands laid) laid f r fine

pub returns-clause-ring : goal.returns-clause-ring
returns-clause-ring c = λ l a w k stands agrees laid f.
    ring-reads l w (agreeing-apart l a agrees stands laid) laid f k
