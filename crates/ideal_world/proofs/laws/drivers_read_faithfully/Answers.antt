use Rattle.ideal_wire.proofs.Faithful.FaithfulRings.{head-reads, ring-reads}
use Rattle.ideal_wire.proofs.Apart.Frames.{agreeing-apart}
use Rattle.ideal_wire.proofs.Faithful.Wiring.{cpu_read-reads, dev_read-reads, dev_read_at-reads}
use Rattle.ideal_world.proofs.laws.drivers_read_faithfully.Goals as goal

pub returns-clause-cpu : goal.returns-clause-cpu
returns-clause-cpu c = λ s w wires i l place len well faithful there.
    let d = well.each i l there in
    cpu_read-reads l (wires i) (agreeing-apart l w.account d.agrees d.stands d.laid) d.laid (faithful i l there)
    place len

pub returns-clause-dev : goal.returns-clause-dev
returns-clause-dev c = λ s w wires i l m off len well faithful there.
    let d = well.each i l there in
    dev_read-reads l (wires i) (agreeing-apart l w.account d.agrees d.stands d.laid) d.laid (faithful i l there)
    m off len

pub returns-clause-dev_at : goal.returns-clause-dev_at
returns-clause-dev_at c = λ s w wires i l t addr len well faithful there.
    let d = well.each i l there in
    dev_read_at-reads l (wires i) (agreeing-apart l w.account d.agrees d.stands d.laid) d.laid (faithful i l there)
    (record { stands = d.stands; laid = d.laid; spaced = d.spaced; mapped = d.mapped }) t addr len

pub returns-clause-head : goal.returns-clause-head
returns-clause-head c = λ s w wires i l r well faithful there.
    let d = well.each i l there in
    head-reads l (wires i) (agreeing-apart l w.account d.agrees d.stands d.laid) d.laid (faithful i l there) r

pub returns-clause-ring : goal.returns-clause-ring
returns-clause-ring c = λ s w wires i l k well faithful there.
    let d = well.each i l there in
    ring-reads l (wires i) (agreeing-apart l w.account d.agrees d.stands d.laid) d.laid (faithful i l there) k
